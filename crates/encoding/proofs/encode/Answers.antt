-- `encoding::encode` meets its contract: the length is known before the first byte is written.
use mathlib.Core.Path.{sym, ◌∙◌}
use native.Mathlib.Omega.{arith}
use Rattle.values.proofs.WrittenLaws.{written-not, count_fits, pasted-in, kept_in}
use borrow.Author.Rules.{rules}
use Rattle.encoding.proofs.encode.Goals as goal

pub returns-then-buffer-n : goal.returns-then-buffer-n
returns-then-buffer-n c =
    let n = c.encoded_len-n in
    record { value = sym (written-not _ _ (omega (arith, n.ensures))); buffer_after = sym (kept_in _ _ (omega (arith, n.ensures))) }

pub returns : goal.returns
returns c =
    let n = c.encoded_len-n in
    record {
      value = count_fits _ _ _ n.ensures (search rules);
      buffer_after = c.encode_to.ensures ∙ sym (pasted-in _ _ (omega (arith, n.ensures)));
    }
