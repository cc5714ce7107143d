-- What the conversion to an `Answer` promises is the definition at each type.
use Rattle.std.specs.Prelude.{◌≡◌, Result, Ok, Err}
use mathlib.Core.Path.{ap, ◌∙◌}
use Rattle.errors.specs.declared.Error.{Error}
use Rattle.errors.specs.declared.Answer.{Answer}
use Rattle.errors.specs.Answer.{refused_answer, answer_of, Shows}

-- where the type has one default
pub shows-answer : {T : Type 0} {is_default : T → Type 0} (default : T) → ((x : T) → is_default x → x ≡ default)
    → (r : Result T Error) (a : Answer T) → Shows is_default r a → a ≡ answer_of default r
shows-answer default only (Ok value) a h = h
shows-answer default only (Err e) a h = h.2 ∙ ap (λ (x : _). refused_answer x e) (only h.0 h.1)
