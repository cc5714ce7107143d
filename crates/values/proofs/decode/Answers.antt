-- `values::decode` meets its contract: the length is known before the first byte is written.
use mathlib.Core.Path.{sym, ◌∙◌}
use Rattle.values.proofs.WrittenLaws.{fits_told, none-told, pasted-in, kept_in}
use Rattle.values.proofs.decode.Goals as goal

pub returns-in_err-n-clause-buffer_after : goal.returns-in_err-n-clause-buffer_after
returns-in_err-n-clause-buffer_after c = sym (kept_in _ _ (none-told _ _ (sym c.in_err-n.ensures)))

pub decode_to-requires : goal.decode_to-requires
decode_to-requires c = fits_told _ _ c.in_ok-n.n (sym c.in_ok-n.ensures)

pub returns-clause-buffer_after : goal.returns-clause-buffer_after
returns-clause-buffer_after c =
    c.decode_to.ensures ∙ sym (pasted-in _ _ (fits_told _ _ c.in_ok-n.n (sym c.in_ok-n.ensures)))
