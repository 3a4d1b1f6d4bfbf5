-- Heads, compared.
use Rattle.std.proofs.Common.{◌≡◌, Bool, true, false, cond, List, [], ◌∷◌, Option, Some, ap, refl, sym, ◌∙◌}
use Rattle.std.specs.Prelude.{find}
use Rattle.std.proofs.lemmas.Option.{same_Some}
use Rattle.ra_ap_intern.proofs.CallerLemmas.{named_same}
use Rattle.ra_ap_intern.specs.Symbols.{Named, same_named}
use Rattle.syntax.specs.Lexeme.{operator_head, operators, operator_of}
use Rattle.syntax.specs.declared.token.Operator.{Operator}

-- what is found passes
chosen : {X : Type 0} (p : X → Bool) (y x : X) (rest : Option X) (b : Bool) → p y ≡ b
    → (rest ≡ Some x → p x ≡ true) → cond b (Some y) rest ≡ Some x → p x ≡ true
chosen p y x rest true here more is = ap p (sym (same_Some y x is)) ∙ here
chosen p y x rest false here more is = more is

found_passes : {X : Type 0} (p : X → Bool) (xs : List X) (x : X) → find p xs ≡ Some x → p x ≡ true
found_passes p [] x is = absurd (cc)
found_passes p (y ∷ ys) x is =
    chosen p y x (find p ys) (p y) refl (found_passes p ys x) is

-- the head of the operator of a head is that head
pub head_of_operator : (head : Named) (operator : Operator) → operator_of head ≡ Some operator
    → operator_head operator ≡ head
head_of_operator head operator is =
    named_same (operator_head operator) head
    (found_passes (λ o. same_named (operator_head o) head) operators operator is)
