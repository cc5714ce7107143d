-- `lists::find_either` meets its contract: bytes that have neither are skipped, and the first of those after them is found.
use Rattle.std.proofs.Common.{rules, ◌≡◌, ◌∙◌, ap, arith, take, drop, length, ◌-◌}
use Rattle.std.specs.Prelude.{unwrap_or}
use Rattle.lists.specs.Helpers.{until_either}
use Rattle.lists.proofs.ListLaws.{drop-whole}
use Rattle.lists.proofs.FindLaws.{until-end, until_found}
use Rattle.lists.proofs.find_either.Goals as goal

pub returns-in_default : goal.returns-in_default
returns-in_default c =
    let a = c.args in
    omega (arith, until-end a.b a.c a.s.now a.from (search rules))

pub returns : goal.returns
returns c =
    let a = c.args in
    let rest = c.in-Some.rest.now in
    let skipped = c.skip_chunks-skipped in
    let e : rest ≡ drop a.from a.s.now = c.in-Some.ensures.lookup.0.2 ∙ drop-whole a.s.now a.from in
    let near = take (length rest - skipped.result) (drop skipped.result rest) in
    let found : c.unwrap_or.result ≡ until_either a.b a.c (drop skipped.result rest) =
    c.unwrap_or.ensures ∙ ap (λ r. unwrap_or r (length near)) c.first_either.ensures ∙ until_found a.b a.c near
    ∙ ap (until_either a.b a.c) (drop-whole rest skipped.result) in
    omega (arith, found, skipped.ensures.1, ap (until_either a.b a.c) e)
