-- `repeats::next_start` meets its contract: a piece begins right after the next 0x00.
use Rattle.repeats.proofs.StartLaws.{next-found, next-end}
use borrow.Author.Rules.{rules}
use Rattle.repeats.proofs.next_start.Goals as goal

pub returns-then-zero-pairs : goal.returns-then-zero-pairs
returns-then-zero-pairs c = next-found c.find_either-zero.ensures c.requires (search rules)

pub returns : goal.returns
returns c = next-end c.find_either-zero.ensures c.requires (search rules)
