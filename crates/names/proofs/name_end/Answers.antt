-- `names::name_end` meets its contract.
use Rattle.std.proofs.Common.{rules, ◌≡◌, ◌≤◌, ◌+◌, ◌∙◌, ap, arith, drop, length, drop_of_length-le}
use Rattle.std.proofs.Math.Seq.{take_all}
use Rattle.std.proofs.lemmas.List.{length-drop}
use Rattle.std.specs.Prelude.{unwrap_or}
use Rattle.names.specs.Helpers.{allowed_ahead}
use Rattle.names.proofs.AheadLaws.{ahead_none, ahead_found}
use Rattle.names.proofs.name_end.Goals as goal

pub returns-in-None : goal.returns-in-None
returns-in-None c =
    let h : length c.args.s.now ≤ c.args.from = search rules in
    omega (arith, ap allowed_ahead (drop_of_length-le c.args.s.now h), ahead_none)

pub returns-in-Some : goal.returns-in-Some
returns-in-Some c =
    let e : c.in-Some.rest.now ≡ drop c.args.from c.args.s.now = c.in-Some.ensures.lookup.0.2 ∙ take_all _ _ (omega (arith, length-drop c.args.from c.args.s.now)) in
    ap (λ n. c.args.from + n)
    (c.unwrap_or.ensures ∙ ap (λ r. unwrap_or r (length c.in-Some.rest.now)) c.first_wrong.ensures ∙ ahead_found c.in-Some.rest.now ∙ ap allowed_ahead e)
