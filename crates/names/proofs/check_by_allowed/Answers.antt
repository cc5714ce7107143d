-- `names::check_by_allowed` meets its contract, case by case.
use borrow.Author.Rules.{rules}
use Rattle.names.proofs.AheadLaws.{allowed-long, allowed-none, allowed-whole, allowed-part}
use Rattle.names.proofs.check_by_allowed.Goals as goal

pub returns-then-allowed-gt31 : goal.returns-then-allowed-gt31
returns-then-allowed-gt31 c = allowed-long _ _ (search rules)

pub returns-then-allowed-eq0 : goal.returns-then-allowed-eq0
returns-then-allowed-eq0 c = allowed-none _ _ (search rules) c.if-allowed-eq0.true

pub returns-then-whole : goal.returns-then-whole
returns-then-whole c = allowed-whole _ _ (search rules) c.if-allowed-eq0.false c.if-whole.true

pub returns : goal.returns
returns c = allowed-part _ _ (search rules) c.if-allowed-eq0.false c.if-whole.false
