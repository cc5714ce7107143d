-- Examples of the definition, by computing.
use Rattle.std.specs.Prelude.{◌≡◌, refl, [], ◌∷◌, Some, None}
use Rattle.lists.specs.Bytes.{same_bytes, stands}
use Rattle.repeats.specs.Pieces.{ends_name, name_of, piece_name, starts_from, starts, repeat_in, first_repeat}

-- no bytes; a=1, b=2
example-1 : first_repeat [] ≡ None
unfolding same_bytes stands ends_name name_of piece_name starts_from starts repeat_in first_repeat
example-1 = refl

example-2 : first_repeat (97 ∷ 61 ∷ 49 ∷ 0 ∷ 98 ∷ 61 ∷ 50 ∷ 0 ∷ []) ≡ None
unfolding same_bytes stands ends_name name_of piece_name starts_from starts repeat_in first_repeat
example-2 = refl

-- a=1, b=2, a=: the third, at 8
example-3 : first_repeat (97 ∷ 61 ∷ 49 ∷ 0 ∷ 98 ∷ 61 ∷ 50 ∷ 0 ∷ 97 ∷ 61 ∷ 0 ∷ []) ≡ Some 8
unfolding same_bytes stands ends_name name_of piece_name starts_from starts repeat_in first_repeat
example-3 = refl

-- a=, b=, b=, a=: the earlier of two repeats
example-4 : first_repeat (97 ∷ 61 ∷ 0 ∷ 98 ∷ 61 ∷ 0 ∷ 98 ∷ 61 ∷ 0 ∷ 97 ∷ 61 ∷ 0 ∷ []) ≡ Some 6
unfolding same_bytes stands ends_name name_of piece_name starts_from starts repeat_in first_repeat
example-4 = refl

-- a prefix is another name, and so is what follows `=`: a=b, ab=, b=a=b
example-5 : first_repeat (97 ∷ 61 ∷ 98 ∷ 0 ∷ 97 ∷ 98 ∷ 61 ∷ 0 ∷ 98 ∷ 61 ∷ 97 ∷ 61 ∷ 98 ∷ 0 ∷ []) ≡ None
unfolding same_bytes stands ends_name name_of piece_name starts_from starts repeat_in first_repeat
example-5 = refl

-- starts: after each 0x00 but the last
example-6 : starts (97 ∷ 61 ∷ 0 ∷ 98 ∷ 61 ∷ 0 ∷ []) ≡ 0 ∷ 3 ∷ []
unfolding starts_from starts
example-6 = refl
