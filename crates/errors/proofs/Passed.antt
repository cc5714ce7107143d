-- What a `?` passes on: the error, as it is.
use mathlib.Core.Path.{◌≡◌, ap}
use Rattle.std.specs.Prelude.{Result, Ok, Err, IsErrAnd}

pub passed-on : {A B : Type 0} (r : Result A B) (e : B) → IsErrAnd r (λ y. y ≡ e) → r ≡ Err e
passed-on (Ok x) e h = absurd h
passed-on (Err y) e h = ap Err h
