-- Lists of numbers, each under its label, and when two are equal.
use Rattle.std.specs.Prelude.{ℕ, Bool, nat_eq}
use Rattle.ra_ap_intern.specs.Sliced.{Sliced, sliced_eq}

-- a label with the numbers of its list
abbrev pub Labelled : Type 0
Labelled = Sliced ℕ ℕ

-- equal labels, and one by one equal numbers
abbrev pub same_list : Labelled → Labelled → Bool
same_list = sliced_eq nat_eq nat_eq
