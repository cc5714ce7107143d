-- `edits::put_pair` meets its contract: name and `=`, then value and 0x00, one piece after the other.
use Prim.Native.Nat.{◌+◌}
use mathlib.Core.Path.{◌≡◌, sym, ◌∙◌}
use native.Mathlib.Omega.{arith}
use lib.ListN.{length, take}
use lib.Seq.{length-take-le}
use Rattle.values.specs.Value.{encode}
use Rattle.variables.specs.Edits.{canonical_pair}
use Rattle.lists.proofs.PastedLaws.{copied-whole}
use Rattle.pairs.proofs.ParseLaws.{length-pair}
use Rattle.edits.proofs.PutLaws.{equals-room, end-room, pair-over}
use Rattle.edits.proofs.put_pair.Goals as goal
use Rattle.edits.proofs.put_pair.Goals.{Start, After-copy}

-- the part has room for the name, the value and two bytes
long : (c : Start) → length c.args.part.now ≡ length c.args.name.now + length (encode c.args.value.now) + 2
long c = omega (arith, c.requires, length-pair (canonical_pair c.args.name.now c.args.value.now))

-- the name is the part's first bytes, as many as it has
named : (c : After-copy) → c.copy.new.to ≡ c.args.name.now
named c =
    let l = c.requires in
    let n = length-pair (canonical_pair c.args.name.now c.args.value.now) in
    c.copy.ensures
    ∙ copied-whole (take (length c.args.name.now) c.args.part.now) c.args.name.now (length-take-le (length c.args.name.now) c.args.part.now (omega (arith, l, n)))

pub overflow_sub-end : goal.overflow_sub-end
overflow_sub-end c = omega (arith, long (goal.at.overflow_sub-end c).Start)

pub slice_bounds-copy-end : goal.slice_bounds-copy-end
slice_bounds-copy-end c = omega (arith, long (goal.at.slice_bounds-copy-end c).Start)

pub slice_bounds-copy-end-2 : goal.slice_bounds-copy-end-2
slice_bounds-copy-end-2 c =
    let l = long (goal.at.slice_bounds-copy-end-2 c).Start in
    sym (length-take-le (length c.args.name.now) c.args.part.now (omega arith))

pub bounds-part-equals : goal.bounds-part-equals
bounds-part-equals c =
    let k = goal.at.bounds-part-equals c in
    equals-room _ _ _ (long k.Start) c.copy.new.to (named k.After-copy)

pub slice_bounds-encode-count : goal.slice_bounds-encode-count
slice_bounds-encode-count c = omega (arith, long (goal.at.slice_bounds-encode-count c).Start)

pub slice_bounds-encode-start : goal.slice_bounds-encode-start
slice_bounds-encode-start c = omega (arith, long (goal.at.slice_bounds-encode-start c).Start)

pub bounds-part-end : goal.bounds-part-end
bounds-part-end c =
    let k = goal.at.bounds-part-end c in
    end-room _ _ _ (long k.Start) c.copy.new.to (named k.After-copy) c.encode.new.buffer c.encode.ensures.buffer_after

pub returns : goal.returns
returns c =
    let k = goal.at.returns c in
    pair-over _ _ _ (long k.Start) c.copy.new.to (named k.After-copy) c.encode.new.buffer c.encode.ensures.buffer_after
