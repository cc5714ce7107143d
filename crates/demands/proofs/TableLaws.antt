-- DEMAND 1: each request answers exactly by the table of codes.
use Prim.Native.Nat.{ℕ}
use mathlib.Core.Path.{◌≡◌, refl, subst}
use mathlib.Core.Logic.{◌≢◌}
use mathlib.Core.List.{List, []}
use Rattle.lists.specs.Bytes.{AllBytes}
use Rattle.demands.specs.Requests.{Request, Seen, lends, refuses}
use Rattle.demands.specs.Table.{Answers}
use Rattle.demands.specs.Library.{seen}
use Rattle.demands.specs.Demands.{RequestBytes, Demand1}
use Rattle.demands.proofs.TableCalls.{row_seen}
use Rattle.demands.proofs.TableRows.{seen-row}

-- what every code from 1 up leaves
record Untouched (I : List ℕ) (r : Request) (s : Seen) : Type 0 where
  image : s.image ≡ I
  buffer : s.buffer ≡ lends r
  told : (s.amount ≡ 0) × (s.header ≡ 0) × (s.blocks ≡ 0) × (s.signature ≡ 0) × (s.part ≡ [])

refused-so : (r : Request) (I : List ℕ) (code offset : ℕ) → Untouched I r (refuses r I code offset)
refused-so r I code offset = record { image = refl; buffer = refl; told = (refl, refl, refl, refl, refl) }

untouched : {I : List ℕ} {r : Request} {s : Seen} → Answers I r s → s.code ≢ 0 → Untouched I r s
untouched (Answers.eleven k q) n = refused-so _ _ _ _
untouched (Answers.one w q) n = refused-so _ _ _ _
untouched (Answers.two h x) n = refused-so _ _ _ _
untouched (Answers.three h x) n = refused-so _ _ _ _
untouched (Answers.four h x) n = refused-so _ _ _ _
untouched (Answers.twenty w s) n = refused-so _ _ _ _
untouched (Answers.six w x) n = refused-so _ _ _ _
untouched (Answers.seven h x) n = refused-so _ _ _ _
untouched (Answers.eight h x) n = refused-so _ _ _ _
untouched (Answers.nine h x) n = refused-so _ _ _ _
untouched (Answers.ten h x) n = refused-so _ _ _ _
untouched (Answers.twelve-read h q) n = refused-so _ _ _ _
untouched (Answers.twelve-remove h q) n = refused-so _ _ _ _
untouched (Answers.thirteen h z l) n = refused-so _ _ _ _
untouched (Answers.fourteen h v l) n = refused-so _ _ _ _
untouched (Answers.done-set h z l s j) n = absurd (n refl)
untouched (Answers.done-remove h v s j) n = absurd (n refl)
untouched (Answers.done-normalize h s j) n = absurd (n refl)
untouched (Answers.done-read h v l j) n = absurd (n refl)
untouched (Answers.done-count h) n = absurd (n refl)
untouched (Answers.done-check c) n = absurd (n refl)
untouched (Answers.done-partition x) n = absurd (n refl)
untouched (Answers.done-find f) n = absurd (n refl)
untouched (Answers.done-area f) n = absurd (n refl)

pub demand-1 : (r : Request) (I : List ℕ) → AllBytes I → RequestBytes r → Demand1 r I
demand-1 r I bytes b =
    let a : Answers I r (seen r I) = seen-row I bytes r b in
    record {
      exactly = λ s. (row_seen I bytes b, λ e. subst (λ (x : Seen). Answers I r x) e a);
      image-kept = λ n. (untouched a n).image;
      buffer-kept = λ n. (untouched a n).buffer;
      nothing-told = λ n. (untouched a n).told;
    }
