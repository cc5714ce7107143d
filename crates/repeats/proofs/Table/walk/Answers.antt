-- `repeats::Table::walk` meets its contract. The invariant: the entries of that name are all ahead in the walk.
use Rattle.std.proofs.Common.{arith, rules, ◌≡◌, ◌+◌, ◌<◌, length, get_or, suc, ℕ, ap, sym, ◌∙◌}
use Rattle.std.proofs.lemmas.List.{get_or-map}
use Rattle.repeats.specs.declared.Link.{Link}
use Rattle.repeats.specs.declared.Table.{Table}
use Rattle.repeats.specs.declared.Entry.{Entry}
use Rattle.repeats.specs.Pieces.{piece_name}
use Rattle.repeats.specs.Helpers.Names.{hash_of}
use Rattle.repeats.specs.Helpers.Table.{InTable, link_place, place, above, starts_of, root_of, way_of, HasTrees}
use Rattle.repeats.proofs.NameLaws.{piece-while, names-same, names-differ}
use Rattle.repeats.proofs.LinkLaws.{blank, starts-many, trees-many}
use Rattle.repeats.proofs.TableLaws.{scaled, root-low, walk_none, walk-next, walk-hit, walk-end}
use Rattle.repeats.proofs.Table.walk.Goals as goal

-- a table has as many trees as entries
trees : (t : Table) → HasTrees t → length t.roots.now ≡ length (starts_of t)
trees t h = trees-many t.from t.roots.now t.entries.now h.long

entries : (t : Table) → length t.entries.now ≡ length (starts_of t)
entries t = sym (starts-many t.from t.entries.now)

-- the entry that a link leads to
module _ (t : Table) (h : HasTrees t) (link : Link) {entry : ℕ} (at : above t link ≡ suc entry) where
  inside : (entry < length t.entries.now) × (length t.entries.now < 65536)
  inside =
      let e = starts-many t.from t.entries.now in
      (omega (arith, e, h.below (place t link) entry at, h.room), omega (arith, e, h.small))

  begins : get_or (starts_of t) entry 0 ≡ t.from + (get_or t.entries.now entry blank).far
  begins = get_or-map (λ (e : Entry). t.from + e.far) t.entries.now entry blank 0 inside.0

  within : t.from + (get_or t.entries.now entry blank).far < length t.pairs.now
  within = omega (arith, begins, h.inside entry (h.below (place t link) entry at))

pub overflow_mul-link : goal.overflow_mul-link
overflow_mul-link c =
    let t = c.args.self.now in
    omega (arith, scaled c.name_hash-hash.result (length t.entries.now), c.requires.0.small, entries t)

pub loop-entry-init : goal.loop-entry-init
unfolding root_of way_of link_place InTable
loop-entry-init c =
    let t = c.args.self.now in
    let n = entries t in
    let h : c.name_hash-hash.result ≡ hash_of (piece_name t.pairs.now c.args.at) = c.name_hash-hash.ensures ∙ ap hash_of (piece-while t.pairs.now c.args.at) in (
      omega (arith, n, trees t c.requires.0, root-low (length t.entries.now) c.name_hash-hash.result (omega (arith, n, c.requires.0.some))),
      walk_none c.requires.0 c.args.at c.name_hash-hash.result (length t.entries.now) n h,
    )

pub offset_bounds-self-entry : goal.offset_bounds-self-entry
offset_bounds-self-entry c = omega (arith, inside c.args.self.now c.requires.0 c.loop-entry.link c.in-Some.ensures)

pub bounds-self-entry : goal.bounds-self-entry
bounds-self-entry c = (inside c.args.self.now c.requires.0 c.loop-entry.link c.in-Some.ensures).0

pub overflow_add-start : goal.overflow_add-start
overflow_add-start c = omega (arith, within c.args.self.now c.requires.0 c.loop-entry.link c.in-Some.ensures)

pub slice_bounds-same_name-count : goal.slice_bounds-same_name-count
slice_bounds-same_name-count c = omega (arith, within c.args.self.now c.requires.0 c.loop-entry.link c.in-Some.ensures)

pub slice_bounds-same_name-start : goal.slice_bounds-same_name-start
slice_bounds-same_name-start c = let h = within c.args.self.now c.requires.0 c.loop-entry.link c.in-Some.ensures in search rules

pub returns-then-same_name : goal.returns-then-same_name
returns-then-same_name c =
    let b = begins c.args.self.now c.requires.0 c.loop-entry.link c.in-Some.ensures in
    walk-hit c.requires.0 c.loop-entry.invariant.1 c.in-Some.ensures (ap (piece_name _) b ∙ names-same _ _ _ c.same_name.ensures c.if-same_name.true)

pub loop-entry-smaller : goal.loop-entry-smaller
unfolding link_place
loop-entry-smaller c =
    let t = c.args.self.now in
    let h = c.requires.0 in
    omega (arith, h.long, h.room, c.loop-entry.invariant.1.low, trees t h, h.onward _ _ c.in-Some.ensures, h.below _ _ c.in-Some.ensures)

pub loop-entry-preserved : goal.loop-entry-preserved
unfolding link_place InTable
loop-entry-preserved c =
    let t = c.args.self.now in
    let h = c.requires.0 in
    let b = begins t h c.loop-entry.link c.in-Some.ensures in (
      ((inside t h c.loop-entry.link c.in-Some.ensures).0, omega arith),
      walk-next h c.loop-entry.invariant.1 (length t.roots.now) (trees t h) c.in-Some.ensures
          (λ q. names-differ _ _ _ c.same_name.ensures c.if-same_name.false (ap (piece_name _) (sym b) ∙ q)),
    )

pub returns : goal.returns
returns c =
    let t = c.args.self.now in
    let h : c.name_hash-hash.result ≡ hash_of (piece_name t.pairs.now c.args.at) = c.name_hash-hash.ensures ∙ ap hash_of (piece-while t.pairs.now c.args.at) in
    (c.loop-entry.invariant.0, walk-end c.requires.0 c.loop-entry.invariant.1 h c.in_default.ensures)
