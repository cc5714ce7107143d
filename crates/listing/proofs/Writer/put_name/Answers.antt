-- `Writer::put_name` meets its contract.
use Rattle.std.proofs.Common.{arith, rules, ap, ◌∙◌, [], ◌∷◌, sym, length, drop, ◌+◌}
use Rattle.listing.specs.Text.{shown_name}
use Rattle.listing.proofs.WordLaws.{name-byte, name-zero, name-end}
use Rattle.listing.proofs.WriterLaws.{writing-start, writing-room, writing-next, writing-end}
use Rattle.listing.proofs.Writer.put_name.Goals as goal

pub loop-b-init : goal.loop-b-init
loop-b-init c = writing-start c.args.self.now (shown_name c.args.name.now) c.requires

pub put_byte-requires : goal.put_byte-requires
put_byte-requires c =
    omega (arith, ap length (name-byte c.args.name.now c.loop-b.b-index (search rules) c.if-b-eq0.false), writing-room c.loop-b.invariant c.requires)

pub loop-b-preserved : goal.loop-b-preserved
loop-b-preserved c =
    let e = name-byte c.args.name.now c.loop-b.b-index (search rules) c.if-b-eq0.false in
    let left = drop (c.loop-b.b-index + 1) c.args.name.now in
    writing-next c.loop-b.invariant (c.visible_byte.result ∷ []) _ (e ∙ ap (λ x. x ∷ shown_name left) (sym c.visible_byte.ensures)) c.put_byte.ensures

pub returns-after-loop-b : goal.returns-after-loop-b
returns-after-loop-b c = writing-end c.loop-b.invariant (name-end c.args.name.now c.loop-b.b-index (search rules))

pub returns-then-b-eq0 : goal.returns-then-b-eq0
returns-then-b-eq0 c = writing-end c.loop-b.invariant (name-zero c.args.name.now c.loop-b.b-index (search rules) c.if-b-eq0.true)
