-- `list_accepted` meets its contract: the pieces of the text stand one after the other.
use Prim.Native.Nat.{◌+◌, ◌≤◌}
use mathlib.Core.Path.{◌≡◌, refl}
use borrow.Author.Rules.{rules}
use native.Mathlib.Omega.{arith}
use lib.ListN.{length}
use Rattle.partitions.specs.Walk.{walk}
use Rattle.listing.proofs.PieceLaws.{listed-short}
use Rattle.listing.proofs.WriterLaws.{wrote_then, listed-written}
use Rattle.listing.proofs.TextLaws.{text-by-fits, measured-pieces, measured-length}
use Rattle.listing.specs.Text.{decimal, text_by}
use Rattle.listing.proofs.list_accepted.Goals as goal
use Rattle.listing.proofs.list_accepted.Goals.{After-decimal_len}

-- the length of the text, and its bound
sized : (c : After-decimal_len)
    → (length (text_by c.args.image.now (walk c.args.image.now)) ≤ 131_072)
    × (length (text_by c.args.image.now (walk c.args.image.now)) ≡ c.args.lines.bytes + length (decimal c.args.lines.blocks) + 27)
sized c =
    let a = c.args in
    (text-by-fits a.image.now c.requires.image_len_bound, measured-length a.image.now a.lines c.requires.image_value)

pub overflow_add-bytes : goal.overflow_add-bytes
overflow_add-bytes c = omega (arith, sized (goal.at.overflow_add-bytes c).After-decimal_len)

pub overflow_add-bytes-2 : goal.overflow_add-bytes-2
overflow_add-bytes-2 c = omega (arith, sized (goal.at.overflow_add-bytes-2 c).After-decimal_len)

pub returns-then-text-bytes : goal.returns-then-text-bytes
returns-then-text-bytes c =
    listed-short (text_by c.args.image.now (walk c.args.image.now)) c.args.text.now
    (omega (arith, sized (goal.at.returns-then-text-bytes c).After-decimal_len))

pub returns : goal.returns
returns c =
    let all = wrote_then (wrote_then (wrote_then c.put.ensures c.put_lines.ensures) c.put_decimal.ensures) c.put-2.ensures in
    let same = all.same in
    listed-written refl all (measured-pieces c.args.image.now c.args.lines c.requires.image_value) (search rules)
