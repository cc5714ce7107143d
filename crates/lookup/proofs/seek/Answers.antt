-- `lookup::seek` meets its contract. The loop's invariant: what has matched so far and the partitions left give the answer.
use Prim.Native.Nat.{◌<◌, ◌≤◌}
use mathlib.Core.Path.{◌≡◌, ap, sym, ◌∙◌, subst}
use mathlib.Core.List.{List, ◌∷◌}
use native.Mathlib.Omega.{arith}
use lib.ListN.{length}
use Rattle.partitions.specs.declared.Partition.{Partition}
use Rattle.partitions.specs.declared.Cursor.{Cursor}
use Rattle.std.specs.Prelude.{not, eqb, Ok, Err}
use Rattle.partitions.proofs.WalkLaws.{next-bounds, rest, on_walk, loop-next, loop-end, loop-broken}
use Rattle.lookup.specs.declared.Matched.{Matched}
use Rattle.lookup.specs.declared.Matched.TheVariants.{None}
use Rattle.lookup.specs.Helpers.{seek_of}
use Rattle.lookup.proofs.SeekLaws.{whole-header, seek_name, seek-refused, seek-start, turn-unsigned, turn-uncounted, turn-unnamed, turn_match}
use Rattle.lookup.proofs.seek.Given.{Over}
use Rattle.lookup.proofs.seek.Goals as goal
use Rattle.lookup.proofs.seek.Goals.{In-Ok-Some, else-signature_at-signature-via-then-signature_at-signature+then-counts_one_more+else-has_name, else-signature_at-signature-via-then-signature_at-signature+else-counts_one_more, else-signature_at-signature-via-else-signature_at-signature}

-- a step that goes on, goes on inside the image
on : (g : Over) (c : In-Ok-Some g) → (c.loop-step.cursor.at < c.in-Ok-Some.step.next.at) × (c.in-Ok-Some.step.next.at ≤ length c.args.image.now)
on g c = next-bounds c.args.image.now c.loop-step.cursor.at c.in-Ok-Some.step (sym c.step.ensures ∙ c.in-Ok-Some.is ∙ ap Ok c.in-Ok-Some.field-0-is)

-- a turn that goes on keeps the invariant, where what has matched after it stands for one partition more
turn : (g : Over) (c : In-Ok-Some g) (matched : Matched)
    → ((ps : List Partition)
    → seek_name (not (eqb g.row.ONLY 0)) c.args.image.now c.args.signature c.args.name.now c.loop-step.matched (c.in-Ok-Some.step.here ∷ ps)
    ≡ seek_name (not (eqb g.row.ONLY 0)) c.args.image.now c.args.signature c.args.name.now matched ps)
    → on_walk (seek_name (not (eqb g.row.ONLY 0)) c.args.image.now c.args.signature c.args.name.now matched) Err (rest c.args.image.now c.in-Ok-Some.step.next.at)
    ≡ seek_of (not (eqb g.row.ONLY 0)) c.args.image.now c.args.signature c.args.name.now
turn g c matched q =
    let a = c.args in
    let l = c.loop-step in
    let t = c.in-Ok-Some in
    loop-next a.image.now l.cursor.at (seek_name (not (eqb g.row.ONLY 0)) a.image.now a.signature a.name.now l.matched) Err _ l.invariant t.step
    (sym c.step.ensures ∙ t.is ∙ ap Ok t.field-0-is) (seek_name (not (eqb g.row.ONLY 0)) a.image.now a.signature a.name.now matched) q

pub returns-then-not-allowed_length : goal.returns-then-not-allowed_length
returns-then-not-allowed_length g c =
    let a = c.args in
    seek-refused (not (eqb g.row.ONLY 0)) a.image.now a.signature a.name.now (sym c.allowed_length.ensures ∙ c.if-not-allowed_length.true)

pub loop-step-init : goal.loop-step-init
loop-step-init g c =
    let a = c.args in
    let image = a.image.now in
    let name = a.name.now in
    subst
    (λ (s : Cursor).
    on_walk (seek_name (not (eqb g.row.ONLY 0)) image a.signature name None) Err (rest image s.at) ≡ seek_of (not (eqb g.row.ONLY 0)) image a.signature name)
    (sym c.start-cursor.ensures)
    (seek-start (not (eqb g.row.ONLY 0)) image a.signature name (sym c.allowed_length.ensures ∙ c.if-not-allowed_length.false))

pub has_name-requires : goal.has_name-requires
has_name-requires g c =
    omega (arith, whole-header c.args.image.now c.loop-step.cursor.at c.in-Ok-Some.step (sym c.step.ensures ∙ c.in-Ok-Some.is ∙ ap Ok c.in-Ok-Some.field-0-is))

pub loop-step-smaller-then-has_name : goal.loop-step-smaller-then-has_name
loop-step-smaller-then-has_name g c = omega (arith, on g (goal.at.loop-step-smaller-then-has_name g c).In-Ok-Some)

pub loop-step-preserved-then-has_name : goal.loop-step-preserved-then-has_name
loop-step-preserved-then-has_name g c =
    let a = c.args in
    let m = c.loop-step.matched in
    turn g (goal.at.loop-step-preserved-then-has_name g c).In-Ok-Some c.with-matched.result
    (λ ps. turn_match (not (eqb g.row.ONLY 0)) a.image.now a.signature a.name.now m c.in-Ok-Some.step.here ps c.signature_at.result c.signature_at.ensures
    c.if-signature_at-signature.true c.counts_one_more.result c.counts_one_more.ensures c.has_name.result c.has_name.ensures
    c.if-counts_one_more.true c.if-has_name.true c.with-matched.result c.with-matched.ensures)

pub loop-step-smaller : goal.loop-step-smaller
loop-step-smaller g c = omega (arith, on g (goal.at.loop-step-smaller g c).In-Ok-Some)

-- another name, a match that does not count, or another signature
pub loop-step-preserved : goal.loop-step-preserved
loop-step-preserved g c =
    let a = c.args in
    let m = c.loop-step.matched in
    turn g (goal.at.loop-step-preserved g c).In-Ok-Some m
    (λ ps. elim c.else-signature_at-signature.branch [
      | else-signature_at-signature-via-then-signature_at-signature+then-counts_one_more+else-has_name w ↦
          turn-unnamed (not (eqb g.row.ONLY 0)) a.image.now a.signature a.name.now m c.in-Ok-Some.step.here ps c.signature_at.result c.signature_at.ensures
          w.if-signature_at-signature.true w.counts_one_more.result w.counts_one_more.ensures
          w.has_name.result w.has_name.ensures w.if-counts_one_more.true w.if-has_name.false
      | else-signature_at-signature-via-then-signature_at-signature+else-counts_one_more w ↦
          turn-uncounted (not (eqb g.row.ONLY 0)) a.image.now a.signature a.name.now m c.in-Ok-Some.step.here ps c.signature_at.result c.signature_at.ensures
          w.if-signature_at-signature.true w.counts_one_more.result w.counts_one_more.ensures w.if-counts_one_more.false
      | else-signature_at-signature-via-else-signature_at-signature w ↦
          turn-unsigned (not (eqb g.row.ONLY 0)) a.image.now a.signature a.name.now m c.in-Ok-Some.step.here ps c.signature_at.result c.signature_at.ensures
          w.if-signature_at-signature.false
    ])

pub returns-in-Ok-None : goal.returns-in-Ok-None
returns-in-Ok-None g c =
    let a = c.args in
    let l = c.loop-step in
    loop-end a.image.now l.cursor.at (seek_name (not (eqb g.row.ONLY 0)) a.image.now a.signature a.name.now l.matched) Err _ l.invariant
    (sym c.step.ensures ∙ c.in-Ok-None.is ∙ ap Ok c.in-Ok-None.field-0-is)

pub returns-in-Err : goal.returns-in-Err
returns-in-Err g c =
    let a = c.args in
    let l = c.loop-step in
    loop-broken a.image.now l.cursor.at (seek_name (not (eqb g.row.ONLY 0)) a.image.now a.signature a.name.now l.matched) Err _ l.invariant
    c.in-Err.e (sym c.step.ensures ∙ c.in-Err.is)
