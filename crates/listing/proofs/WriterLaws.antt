-- Laws of a text that is written piece by piece.
use Prim.Native.Nat.{ℕ, ◌+◌, ◌≤◌}
use mathlib.Core.Path.{◌≡◌, refl, sym, ap, ◌∙◌}
use mathlib.Core.List.{List, [], ◌++◌}
use native.Mathlib.Omega.{arith}
use lib.ListN.{length, length-append}
use Rattle.std.specs.Prelude.{Ok}
use Rattle.lists.specs.Pasted.{pasted}
use Rattle.lists.proofs.WrittenLaws.{written_in_lem}
use Rattle.lists.proofs.PastedLaws.{pasted-more}
use Rattle.lists.proofs.Grown.{Grown, grown-none, grown-as, grown-piece, grown-all, grown-end, grown-left}
use Rattle.listing.proofs.PieceLaws.{Lists, listed-fits}
use Rattle.listing.specs.declared.Writer.{Writer}
use Rattle.listing.specs.Helpers.{HasRoom, Wrote}

-- a piece, and a piece right after it
pub wrote_then : {u v w : Writer} {s t : List ℕ} → Wrote u s v → Wrote v t w → Wrote u (s ++ t) w
wrote_then {u} {v} {w} {s} {t} p q =
    let e : v.at ≡ u.at + length s = p.end in
    let f : w.at ≡ v.at + length t = q.end in
    let r : u.at + length s ≤ length u.text.now = omega (arith, p.room) in
    record {
      same = q.same ∙ p.same;
      long = q.long ∙ p.long;
      end = omega (arith, length-append s t);
      room = omega (arith, p.long, q.room);
      text = q.text ∙ (λ i. pasted (p.text i) (e i) t) ∙ pasted-more u.text.now u.at s r t (omega (arith, p.long, q.room));
    }

pub wrote_as : {u v : Writer} {s t : List ℕ} → Wrote u s v → s ≡ t → Wrote u t v
wrote_as p e = rw e at p

-- a text that is written to a buffer from its start on
pub listed-written : {u v : Writer} {s t b : List ℕ} → u.at ≡ 0 → Wrote u s v → s ≡ t → b ≡ v.text.now → Lists t u.text.now (Ok v.at) b
listed-written {u} {v} {s} {t} z p e f =
    let q = wrote_as p e in
    let n : v.at ≡ length t = omega (arith, q.end) in
    let h : length t ≤ length u.text.now = omega (arith, q.room) in
    record {
      value = ap Ok n ∙ sym (listed-fits t (length u.text.now) h);
      text_after = f ∙ q.text ∙ (λ i. pasted u.text.now (z i) t) ∙ sym (written_in_lem t u.text.now h);
    }

-- of a text that writer u writes, rest is to come from writer v
pub record Writing (u : Writer) (all rest : List ℕ) (v : Writer) : Type 0 where
  pub same : v.text.ghost_name ≡ u.text.ghost_name
  pub long : length v.text.now ≡ length u.text.now
  pub grown : Grown all u.text.now u.at v.at rest v.text.now

pub writing-start : (u : Writer) (all : List ℕ) → HasRoom u (length all) → Writing u all all u
writing-start u all h = record { same = refl; long = refl; grown = grown-none all u.text.now u.at (omega arith) }

module _ {u v : Writer} {all rest : List ℕ} (s : Writing u all rest v) where
  pub writing-room : HasRoom u (length all) → HasRoom v (length rest)
  writing-room h = omega (arith, s.long, grown-left s.grown h)

  pub writing-next : (w more : List ℕ) {x : Writer} → rest ≡ w ++ more → Wrote v w x → Writing u all more x
  writing-next w more e q =
      record {
        same = q.same ∙ s.same;
        long = q.long ∙ s.long;
        grown = grown-piece s.grown w more e (omega (arith, q.end, q.room, s.long)) q.end q.text;
      }

  pub writing-as : {more : List ℕ} → rest ≡ more → Writing u all more v
  writing-as e = record { same = s.same; long = s.long; grown = grown-as s.grown e }

  pub writing-end : rest ≡ [] → Wrote u all v
  writing-end e =
      record { same = s.same; long = s.long; end = grown-end s.grown e; room = s.grown.room; text = grown-all s.grown e }
