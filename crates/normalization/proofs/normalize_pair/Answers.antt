-- `normalization::normalize_pair` meets its contract: the name is moved, then the value is made canonical, then the 0x00 is written.
use native.Mathlib.Omega.{arith}
use Rattle.lists.proofs.ByteLaws.{all-bytes}
use Rattle.normalization.proofs.NormalizeLaws.{Shorter, pair-recodes, pair-shorter, pair_made}
use borrow.Author.Rules.{rules}
use Rattle.normalization.proofs.normalize_pair.Goals as goal
use Rattle.normalization.proofs.normalize_pair.Goals.{After-unwrap-m}

-- the value in canonical form ends before the pair's old 0x00
shorter : (c : After-unwrap-m) → Shorter c.args.area.now c.args.pair c.args.to c.unwrap-m.result c.recode.new.area
shorter c =
    pair-shorter c.requires c.move_bytes.new.s c.move_bytes.ensures (all-bytes c.args.area.now (λ i. search rules))
    c.recode.result c.recode.ensures.value c.unwrap-m.result c.unwrap-m.ensures c.recode.new.area c.recode.ensures.area_after

pub unwrap-m-requires : goal.unwrap-m-requires
unwrap-m-requires c = pair-recodes c.requires c.move_bytes.new.s c.move_bytes.ensures c.recode.result c.recode.ensures.value

pub overflow_add-past-2 : goal.overflow_add-past-2
overflow_add-past-2 c = let s = shorter (goal.at.overflow_add-past-2 c).After-unwrap-m in omega (arith, s.ends, s.long, c.requires.inside)

pub bounds-area-past : goal.bounds-area-past
bounds-area-past c = let s = shorter (goal.at.bounds-area-past c).After-unwrap-m in omega (arith, s.ends, s.long, c.requires.inside)

pub overflow_add-result : goal.overflow_add-result
overflow_add-result c = let s = shorter (goal.at.overflow_add-result c).After-unwrap-m in omega (arith, s.ends, s.long, c.requires.inside)

pub returns : goal.returns
returns c =
    let b = all-bytes c.args.area.now (λ i. search rules) in
    let h = pair_made c.requires c.move_bytes.new.s c.move_bytes.ensures b
    c.recode.result c.recode.ensures.value c.unwrap-m.result c.unwrap-m.ensures c.recode.new.area c.recode.ensures.area_after in
    record { upper_bound = h.low; value = h.past; area_after = h.bytes }
