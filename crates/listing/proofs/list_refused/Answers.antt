-- `list_refused` meets its contract: the pieces of the text stand one after the other.
use mathlib.Core.Path.{refl}
use borrow.Author.Rules.{rules}
use mathlib.Core.List.{[]}
use native.Mathlib.Omega.{arith}
use Rattle.partitions.specs.Walk.{broken}
use Rattle.listing.proofs.PieceLaws.{listed-short}
use Rattle.listing.proofs.WriterLaws.{wrote_then, listed-written}
use Rattle.listing.proofs.WordLaws.{refused-length, refused-pieces}
use Rattle.listing.specs.Text.{text_by}
use Rattle.listing.proofs.list_refused.Goals as goal

pub returns-then-text-digits : goal.returns-then-text-digits
returns-then-text-digits c =
    listed-short (text_by [] (broken c.args.e)) c.args.text.now
    (omega (arith, refused-length c.args.e c.code-code.result c.offset-offset.result c.code-code.ensures c.offset-offset.ensures))

pub returns : goal.returns
returns c =
    let code = wrote_then c.put.ensures c.put_decimal.ensures in
    let all = wrote_then (wrote_then (wrote_then code c.put-2.ensures) c.put_decimal-2.ensures) c.put_byte.ensures in
    let same = all.same in
    listed-written refl all (refused-pieces c.args.e c.code-code.result c.offset-offset.result c.code-code.ensures c.offset-offset.ensures)
    (search rules)
