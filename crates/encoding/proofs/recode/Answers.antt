-- `encoding::recode` meets its contract: all is tested before the first byte is written.
use mathlib.Core.Path.{sym, ◌∙◌}
use native.Mathlib.Omega.{arith}
use Rattle.encoding.proofs.RecodeLaws.{recodable-true, recodable-now, recoded-refused, recoded-unspelled, recoded-taken}
use borrow.Author.Rules.{rules}
use Rattle.encoding.proofs.recode.Goals as goal

pub returns-then-from-at : goal.returns-then-from-at
returns-then-from-at c =
    let a = c.args in
    let r = recoded-refused a.area.now a.from a.to a.at (λ r. omega (arith, r.before, c.if-from-at.true)) in
    record { value = r.0; area_after = r.1 }

pub returns-then-to-from : goal.returns-then-to-from
returns-then-to-from c =
    let a = c.args in
    let r = recoded-refused a.area.now a.from a.to a.at (λ r. omega (arith, r.order, c.if-to-from.true)) in
    record { value = r.0; area_after = r.1 }

pub returns-then-area-to : goal.returns-then-area-to
returns-then-area-to c =
    let a = c.args in
    let r = recoded-refused a.area.now a.from a.to a.at (λ r. omega (arith, r.inside, c.if-area-to.true)) in
    record { value = r.0; area_after = r.1 }

pub returns-then-not-is_spelled : goal.returns-then-not-is_spelled
returns-then-not-is_spelled c =
    let a = c.args in
    let r = recoded-unspelled a.area.now a.from a.to a.at (sym c.is_spelled.ensures ∙ c.if-not-is_spelled.true) in
    record { value = r.0; area_after = r.1 }

pub recode_to-e-requires : goal.recode_to-e-requires
recode_to-e-requires c =
    let a = c.args in
    recodable-true
    (recodable-now a.area.now a.from a.to a.at (search rules) (search rules) (search rules)
    (sym c.is_spelled.ensures ∙ c.if-not-is_spelled.false))

pub returns : goal.returns
returns c =
    let a = c.args in
    let r =
    recoded-taken a.area.now a.from a.to a.at
    (recodable-now a.area.now a.from a.to a.at (search rules) (search rules) (search rules)
    (sym c.is_spelled.ensures ∙ c.if-not-is_spelled.false))
    c.recode_to-e.ensures.value c.recode_to-e.ensures.area_after in
    record { value = r.0; area_after = r.1 }
