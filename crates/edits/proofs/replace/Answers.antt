-- `edits::replace` meets its contract: room is judged before the first byte is written; then the tail is moved and the pair is put before it.
use Prim.Native.Nat.{ℕ, ◌+◌, ◌-◌, ◌≤◌}
use mathlib.Core.Path.{◌≡◌, sym, ap, ◌∙◌}
use mathlib.Core.List.{List}
use native.Mathlib.Omega.{arith}
use lib.ListN.{length}
use borrow.Rule.Slice.PartMut.{mid_len}
use Rattle.lists.specs.Pasted.{pasted}
use Rattle.lists.proofs.PastedLaws.{part-pasted}
use Rattle.pairs.specs.Area.{pair_bytes}
use Rattle.variables.specs.Edits.{canonical_pair}
use Rattle.edits.specs.Helpers.{tail_shifted}
use Rattle.pairs.proofs.ParseLaws.{length-pair}
use Rattle.edits.proofs.ReplaceLaws.{no_room, has_room}
use Rattle.edits.proofs.replace.Goals as goal
use Rattle.edits.proofs.replace.Goals.{After-shift_tail}

pub returns-then-room-size : goal.returns-then-room-size
returns-then-room-size c =
    let a = c.args in
    let q = canonical_pair a.name.now a.value.now in
    let h = no_room a.area.now a.start a.rest a.used (pair_bytes q) (omega (arith, length-pair q, c.encoded_len-size.ensures)) in
    record { result_value = h.0; area_after = h.1 }

pub returns-then-room-size-2 : goal.returns-then-room-size-2
returns-then-room-size-2 c =
    let a = c.args in
    let q = canonical_pair a.name.now a.value.now in
    let h = no_room a.area.now a.start a.rest a.used (pair_bytes q) (omega (arith, length-pair q, c.encoded_len-size.ensures)) in
    record { result_value = h.0; area_after = h.1 }

-- the part that is lent has just the bytes of the pair
part-long : (c : After-shift_tail) → (c.args.start + length c.args.name.now + c.encoded_len-size.result + 2 ≤ length c.shift_tail.new.area)
    × (c.args.start + length c.args.name.now + c.encoded_len-size.result + 2 - c.args.start
    ≡ length (pair_bytes (canonical_pair c.args.name.now c.args.value.now)))
part-long c =
    let q = canonical_pair c.args.name.now c.args.value.now in (
      omega (arith, c.shift_tail.auto.area, length-pair q, c.encoded_len-size.ensures),
      omega (arith, length-pair q, c.encoded_len-size.ensures),
    )

pub put_pair-requires : goal.put_pair-requires
put_pair-requires c =
    let l = part-long (goal.at.put_pair-requires c).After-shift_tail in
    omega (arith, mid_len c.args.start (c.args.start + length c.args.name.now + c.encoded_len-size.result + 2) c.shift_tail.new.area l.0, l.1)

pub returns : goal.returns
returns c =
    let a = c.args in
    let q = canonical_pair a.name.now a.value.now in
    let to = a.start + length a.name.now + c.encoded_len-size.result + 2 in
    let n : to ≡ a.start + length (pair_bytes q) = omega (arith, length-pair q, c.encoded_len-size.ensures) in
    let l = part-long (goal.at.returns c).After-shift_tail in
    let h = has_room a.area.now a.start a.rest a.used (pair_bytes q) (omega (arith, length-pair q, c.encoded_len-size.ensures)) in record {
      result_value = h.0;
      area_after = part-pasted c.shift_tail.new.area a.start to c.put_pair.new.part (omega arith) l.0 (ap length c.put_pair.ensures ∙ sym l.1)
          ∙ ap (pasted c.shift_tail.new.area a.start) c.put_pair.ensures
          ∙ ap (λ (x : List ℕ). pasted x a.start (pair_bytes q))
          (c.shift_tail.ensures ∙ ap (λ (k : ℕ). tail_shifted a.area.now a.rest k a.used) n)
          ∙ h.1;
    }
