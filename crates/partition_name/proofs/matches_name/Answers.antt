-- `partition_name::matches_name` meets its contract. The loop's invariant: the names match exactly when their bytes from i on do.
use Rattle.std.proofs.Common.{arith}
use Rattle.partition_name.proofs.LoopLaws.{agree-none, not-twelve, too_long, agree-next, agree-differs, agree-zero, agree-all}
use Rattle.partition_name.proofs.matches_name.Goals.{then-stored-ne-NAME_SIZE-via-then-stored-ne-NAME_SIZE, then-stored-ne-NAME_SIZE-via-else-stored-ne-NAME_SIZE+then-given-gt-NAME_SIZE}
use Rattle.partition_name.proofs.matches_name.Goals as goal

pub returns-then-stored-ne-NAME_SIZE : goal.returns-then-stored-ne-NAME_SIZE
returns-then-stored-ne-NAME_SIZE c =
    let a = c.args in
    elim c.then-stored-ne-NAME_SIZE.branch [
      | then-stored-ne-NAME_SIZE-via-then-stored-ne-NAME_SIZE w ↦ not-twelve a.stored.now a.given.now w.if-stored-ne-NAME_SIZE.true
      | then-stored-ne-NAME_SIZE-via-else-stored-ne-NAME_SIZE+then-given-gt-NAME_SIZE w ↦
          too_long a.stored.now a.given.now w.if-stored-ne-NAME_SIZE.false (omega (arith, w.if-given-gt-NAME_SIZE.true))
    ]

pub loop-i-init : goal.loop-i-init
loop-i-init c =
    let a = c.args in
    agree-none a.stored.now a.given.now c.if-stored-ne-NAME_SIZE.false (omega (arith, c.if-given-gt-NAME_SIZE.false))

pub returns-then-b-byte : goal.returns-then-b-byte
returns-then-b-byte c =
    let a = c.args in
    let l = c.loop-i in
    agree-differs a.stored.now a.given.now l.i l.invariant (omega (arith, c.loop-i-test.true, l.invariant.twelve))
    c.padded_byte-byte.result c.padded_byte-byte.ensures c.if-b-byte.true

pub returns-then-byte-eq0 : goal.returns-then-byte-eq0
returns-then-byte-eq0 c =
    let a = c.args in
    let l = c.loop-i in
    agree-zero a.stored.now a.given.now l.i l.invariant (omega (arith, c.loop-i-test.true, l.invariant.twelve))
    c.padded_byte-byte.result c.padded_byte-byte.ensures c.if-b-byte.false c.if-byte-eq0.true

pub loop-i-preserved : goal.loop-i-preserved
loop-i-preserved c =
    let a = c.args in
    let l = c.loop-i in
    agree-next a.stored.now a.given.now l.i l.invariant (omega (arith, c.loop-i-test.true, l.invariant.twelve))
    c.padded_byte-byte.result c.padded_byte-byte.ensures c.if-b-byte.false c.if-byte-eq0.false

pub returns : goal.returns
returns c =
    let a = c.args in
    let l = c.loop-i in
    agree-all a.stored.now a.given.now l.i l.invariant (omega (arith, c.loop-i-test.false, l.invariant.twelve))
