-- What unknown types may be, and what is one then.
use Rattle.std.proofs.Common.{◌≡◌, ◌↔◌, Result, Ok, Err, IfErr, ℕ, ◌<◌, suc, arith, length, get_or, List, [], ◌∷◌, ◌++◌, Some, slice_get, slice_set, zero, refl, sym, ap, subst, ◌∙◌, rules}
use Rattle.std.specs.Option.{option_map}
use Rattle.std.specs.Result.{IsErrAnd}
use Rattle.std.proofs.lemmas.Option.{slice_get-get_or}
use Rattle.std.specs.declared.alloc.AllocError.{AllocError}
use Rattle.ra_ap_intern.specs.Handle.{ref_name}
use Rattle.ra_ap_intern.specs.Name.{Name}
use Rattle.ra_ap_intern.specs.State.{State, reads}
use Rattle.ra_ap_intern.specs.declared.kind.Values.{Values}
use Rattle.ra_ap_intern.specs.declared.storage.Ref.{Ref}
use Rattle.ra_ap_intern.specs.Tree.{no_more}
use Rattle.types.specs.Tree.{Tree, unknowns}
use Rattle.types.specs.Types.{declared_by, kind_of, open_shape, shape, shape_at, unknown_shape}
use Rattle.types.specs.Unifying.{replaced, IsOpen, StandsFor, Solves, Agree, HaveNoUnifier, IsConflict, IsFree, IsNever, IsNoUnknown, IsPrincipal, Unifies, Binds}
use Rattle.types.specs.declared.error.TypeError.{TypeError}
use Rattle.types.specs.declared.error.TypeError.TheVariants as error
use Rattle.types.specs.declared.unknowns.Known.{Known}
use Rattle.types.specs.declared.unknowns.Known.TheVariants as known
use Rattle.types.specs.declared.unknowns.Unknowns.{Unknowns}
use Rattle.types.specs.declared.value.TypeNode.{TypeNode}
use Rattle.types.specs.declared.value.TypeNode.TheVariants as node
use Rattle.types.specs.declared.value.TypeNode.TheVariants.{Integer, Boolean, Unknown, Any, Function', Pair', outs-Integer, outs-Boolean, outs-Unknown, outs-Any, outs-Function', outs-Pair'}
use Rattle.ra_ap_intern.proofs.CallerLemmas.{one_tree}
use Rattle.types.proofs.Trees.{unfolds}

unknown_is_shape : (number : ℕ) → shape (node.Unknown number) ≡ unknown_shape number
unknown_is_shape number = ap open_shape (outs-Unknown number)

-- the type that a name reads, where it is unknown
pub unknown_at : (s : State TypeNode) (n : Name) (number : ℕ) → reads s n ≡ Some (node.Unknown number)
    → shape_at s n ≡ Some (unknown_shape number)
unknown_at s n number read = ap (option_map shape) read ∙ ap Some (unknown_is_shape number)

-- a type that isn't unknown has no unknown type's shape
no_unknown : (t : TypeNode) → ((x : ℕ) → t ≡ node.Unknown x → ⊥) → (number : ℕ) → shape t ≡ unknown_shape number → ⊥
no_unknown Integer other number is = search (rules, outs-Integer)
no_unknown Boolean other number is = search (rules, outs-Boolean)
no_unknown (Unknown x) other number is = other x refl
no_unknown (Any x) other number is = search (rules, outs-Any)
no_unknown (Function' p q r s) other number is = search (rules, outs-Function')
no_unknown (Pair' p q r s) other number is = search (rules, outs-Pair')

pub no_unknown_at : (s : State TypeNode) (n : Name) (t : TypeNode) → reads s n ≡ Some t
    → ((x : ℕ) → t ≡ node.Unknown x → ⊥) → IsNoUnknown s n
no_unknown_at s n t read other number is =
    let same = sym (ap (option_map shape) read) ∙ is in
    no_unknown t other number (cc)

module _ (s : State TypeNode) (v : ℕ → Tree) where
  stands_once : (n : Name) (t u : Tree) → StandsFor s v n t → StandsFor s v n u → t ≡ u
  stands_once n t u a b = a.2 ∙ ap (replaced v) (one_tree declared_by kind_of s a.0 b.0 n a.1 b.1) ∙ sym b.2

  -- a type that isn't known is what it is taken for
  pub unknown_stands : (n : Name) (number : ℕ) → shape_at s n ≡ Some (unknown_shape number) → StandsFor s v n (v number)
  unknown_stands n number at = (unknowns number, unfolds s n _ [] no_more at tt, refl)

  pub unknown_is : (n : Name) (number : ℕ) → shape_at s n ≡ Some (unknown_shape number) → (t : Tree)
      → StandsFor s v n t → t ≡ v number
  unknown_is n number at t h = stands_once n t (v number) h (unknown_stands n number at)

  pub agree_same : (n m : Name) → n ≡ m → Agree s v n m
  agree_same n m is t = (subst (λ x. StandsFor s v x t) is, subst (λ x. StandsFor s v x t) (sym is))

  pub agree_then : (a b c : Name) → Agree s v a b → Agree s v b c → Agree s v a c
  agree_then a b c f g t = (λ h. (g t).0 ((f t).0 h), λ h. (f t).1 ((g t).1 h))

  pub agree_back : (a b : Name) → Agree s v a b → Agree s v b a
  agree_back a b f t = ((f t).1, (f t).0)

  -- two types that are one tree agree
  agree_at : (a b : Name) (t : Tree) → StandsFor s v a t → StandsFor s v b t → Agree s v a b
  agree_at a b t h k u = (
    λ g. subst (StandsFor s v b) (stands_once a t u h g) k,
    λ g. subst (StandsFor s v a) (stands_once b t u k g) h,
  )

  pub agree_known : (u : Unknowns) → Solves s u v → (number : ℕ) (a : Name) (handle : Ref (Values TypeNode))
      → shape_at s a ≡ Some (unknown_shape number) → slice_get u.known.items number ≡ Some (known.Is handle)
      → Agree s v a (ref_name handle)
  agree_known u solves number a handle at is =
      agree_at a (ref_name handle) (v number) (unknown_stands a number at) (solves number handle is)

-- what is lent is what is listed
pub lent : (xs : List Known) (n : ℕ) (k : Known) → n < length xs → k ≡ get_or xs n k → slice_get xs n ≡ Some k
lent xs n k lt is = slice_get-get_or xs n k lt ∙ ap Some (sym is)

-- a level in place of another, or of what is known
pub nothing_set : (l : ℕ) (xs : List Known) (i n x : ℕ) → slice_get xs n ≡ Some (known.Nothing x)
    → (y : ℕ) × (slice_get (slice_set xs i (known.Nothing l)) n ≡ Some (known.Nothing y))
nothing_set l [] i n x e = absurd (cc)
nothing_set l (k ∷ xs) zero zero x e = (l, refl)
nothing_set l (k ∷ xs) zero (suc n) x e = (x, e)
nothing_set l (k ∷ xs) (suc i) zero x e = (x, e)
nothing_set l (k ∷ xs) (suc i) (suc n) x e = nothing_set l xs i n x e

-- one more of which nothing is known
pub added_last : (l : ℕ) (xs : List Known) → slice_get (xs ++ known.Nothing l ∷ []) (length xs) ≡ Some (known.Nothing l)
added_last l [] = refl
added_last l (k ∷ xs) = added_last l xs

pub added_knows : (l : ℕ) (xs : List Known) (n : ℕ) (h : Ref (Values TypeNode))
    → (slice_get (xs ++ known.Nothing l ∷ []) n ≡ Some (known.Is h)) ↔ (slice_get xs n ≡ Some (known.Is h))
added_knows l [] zero h = (λ is. absurd (cc), λ is. absurd (cc))
added_knows l [] (suc n) h = (λ is. absurd (cc), λ is. absurd (cc))
added_knows l (k ∷ xs) zero h = (λ is. is, λ is. is)
added_knows l (k ∷ xs) (suc n) h = added_knows l xs n h

-- one that becomes known is free no more, and no other is freed
pub is_set : (h : Ref (Values TypeNode)) (xs : List Known) (i n : ℕ) → i < length xs
    → ((g : Ref (Values TypeNode)) → slice_get (slice_set xs i (known.Is h)) n ≡ Some (known.Is g) → ⊥)
    → ((g : Ref (Values TypeNode)) → slice_get xs n ≡ Some (known.Is g) → ⊥) × (n ≡ i → ⊥)
is_set h [] i n lt free = absurd (omega (arith, lt))
is_set h (k ∷ xs) zero zero lt free = absurd (free h refl)
is_set h (k ∷ xs) zero (suc n) lt free = (free, λ is. absurd (omega (arith, is)))
is_set h (k ∷ xs) (suc i) zero lt free = (free, λ is. absurd (omega (arith, is)))
is_set h (k ∷ xs) (suc i) (suc n) lt free =
    let rest = is_set h xs i n (omega (arith, lt)) free in
    (rest.0, λ is. rest.1 (omega (arith, is)))

-- nothing of these is known but what was, and nothing of one of them
pub record StillOpen (s : State TypeNode) (old : Unknowns) (number : ℕ) (u : Unknowns) : Type 0 where
  pub solved : (v : ℕ → Tree) → Solves s u v ↔ Solves s old v
  pub open_here : IsOpen u number
  pub free : (n : ℕ) → IsFree u n → IsFree old n

pub still_lowered : (s : State TypeNode) (old : Unknowns) (number : ℕ) (u w : Unknowns) → StillOpen s old number u
    → ((v : ℕ → Tree) → Solves s w v ↔ Solves s u v) → ((n : ℕ) → IsOpen u n → IsOpen w n)
    → ((n : ℕ) → IsFree w n → IsFree u n) → StillOpen s old number w
still_lowered s old number u w still same stays free = record {
  solved = λ v. (λ h. (still.solved v).0 ((same v).0 h), λ h. (same v).1 ((still.solved v).1 h));
  open_here = stays number still.open_here;
  free = λ n h. still.free n (free n h);
}

pub still_principal : (s : State TypeNode) (old : Unknowns) (number : ℕ) (u : Unknowns) → StillOpen s old number u
    → (v : ℕ → Tree) → IsPrincipal s old v → IsPrincipal s u v
still_principal s old number u still v is = record {
  solves = (still.solved v).1 is.solves;
  free = λ n h. is.free n (still.free n h);
}

-- an unknown type becomes another
module _ (s : State TypeNode) (old new : Unknowns) (number : ℕ) (n m : Name)
    (at : shape_at s n ≡ Some (unknown_shape number)) (binds : Binds s old new number m) where
  pub binds_first : Unifies s old new n m
  binds_first = record {
    general = λ v solves one. (binds v).1
        (solves, subst (StandsFor s v m) (unknown_is s v n number at one.0 one.1) one.2);
    solved = λ v solves. ((binds v).0 solves).0;
    equal = λ v solves. agree_at s v n m (v number) (unknown_stands s v n number at) ((binds v).0 solves).1;
  }

  pub binds_second : Unifies s old new m n
  binds_second = record {
    general = λ v solves one. binds_first.general v solves (one.0, one.2, one.1);
    solved = binds_first.solved;
    equal = λ v solves. agree_back s v n m (binds_first.equal v solves);
  }

-- an unknown type is never another
module _ (s : State TypeNode) (old : Unknowns) (number : ℕ) (n m : Name)
    (at : shape_at s n ≡ Some (unknown_shape number)) (never : IsNever s old number m) where
  pub never_first : HaveNoUnifier s old n m
  never_first v solves one =
      never v solves (subst (StandsFor s v m) (unknown_is s v n number at one.0 one.1) one.2)

  pub never_second : HaveNoUnifier s old m n
  never_second v solves one = never_first v solves (one.0, one.2, one.1)

-- want of memory says nothing of types
pub wants_memory : {A : Type 0} (r : Result A TypeError) (P : TypeError → Type 0)
    → IsErrAnd r (λ why. (e : AllocError) × (why ≡ error.OutOfMemory e)) → IfErr r (λ e. IsConflict e → P e)
wants_memory (Ok a) P is = absurd is
wants_memory (Err why) P is = λ conflict. absurd (subst IsConflict is.1 conflict)

-- an error that is passed on says what it said
pub same_error : {A : Type 0} (r : Result A TypeError) (why : TypeError) (P : TypeError → Type 0)
    → IsErrAnd r (λ e. e ≡ why) → P why → IfErr r P
same_error (Ok a) why P is here = absurd is
same_error (Err e) why P is here = subst P (sym is) here
