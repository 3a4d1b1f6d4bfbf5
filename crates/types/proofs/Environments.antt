-- What environments declare, before and after a change.
use Rattle.std.proofs.Common.{◌≡◌, ◌↔◌, Bool, true, false, cond, List, [], ◌∷◌, map, Option, Some, Result, IfOk, OnErr, refl, sym, ap, subst, ◌∙◌}
use Rattle.std.specs.HashMap.{HashMap, get}
use Rattle.std.specs.Map.{lookup, values_of}
use Rattle.std.specs.Option.{option_map}
use Rattle.std.specs.declared.alloc.AllocError.{AllocError}
use Rattle.std.proofs.lemmas.Bool.{or_left, or_right}
use Rattle.std.proofs.lemmas.Option.{same_Some}
use Rattle.ra_ap_intern.specs.Families.{IsCollection, kept_named}
use Rattle.ra_ap_intern.specs.Handle.{ref_name}
use Rattle.ra_ap_intern.specs.Name.{Name}
use Rattle.ra_ap_intern.specs.Names.{has}
use Rattle.ra_ap_intern.specs.Reach.{IsReachedSet, starts_with}
use Rattle.ra_ap_intern.specs.State.{State}
use Rattle.ra_ap_intern.specs.Symbols.{Named, same_named, symbol_ref_name}
use Rattle.ra_ap_intern.specs.Under.{under_symbol}
use Rattle.ra_ap_intern.specs.declared.gc.Collected.{Collected}
use Rattle.ra_ap_intern.specs.declared.kind.Values.{Values}
use Rattle.ra_ap_intern.specs.declared.storage.Ref.{Ref}
use Rattle.ra_ap_intern.specs.declared.symbol.SymbolRef.{SymbolRef}
use Rattle.ra_ap_intern.proofs.CallerLemmas.{one_collected, entry_read, kept_was_read, root_kept, same_names, symbols_changed, tree_kept, tree_on, tree_read}
use Rattle.types.specs.Environment.{declared_as, declared_types, Declares}
use Rattle.types.specs.Growing.{Grows}
use Rattle.types.specs.Tree.{Tree, UnfoldsTo}
use Rattle.types.specs.Types.{declared_by, kind_of, types_of}
use Rattle.types.specs.declared.environment.Environment.{Environment}
use Rattle.types.specs.declared.value.TypeNode.{TypeNode}

-- the type that a look-up finds is among the types of all names
listed_first : (t : Bool) (r : Ref (Values TypeNode)) (o : Option (Ref (Values TypeNode)))
    (names : List Name) (n : Name)
    → (option_map ref_name o ≡ Some n → has names n ≡ true)
    → option_map ref_name (cond t (Some r) o) ≡ Some n → has (ref_name r ∷ names) n ≡ true
listed_first true r o names n others is =
    or_left _ _ (same_names n (ref_name r) (sym (same_Some _ _ is)))
listed_first false r o names n others is = or_right _ _ (others is)

listed : {K : Type 0} (test : K → Bool) (es : List (K × Ref (Values TypeNode))) (n : Name)
    → option_map ref_name (lookup test es) ≡ Some n → has (map ref_name (values_of es)) n ≡ true
listed test [] n is = absurd (cc)
listed test (e ∷ es) n is = listed_first (test e.0) e.1 (lookup test es) _ n (listed test es n) is

module _ (e : Environment) where
  -- the environment with these types
  abbrev over : State TypeNode → Environment
  over s = record { types = s; declared = e.declared }

  module _ (name : Named) (tree : Tree) where
    -- a declared type stands for the same tree where the others are removed
    kept : (names : List Name)
        → IsReachedSet (starts_with (declared_types e.declared) (types_of e.types)) (types_of e.types) names
        → Declares e name tree ↔ Declares (over (kept_named e.types (has names))) name tree
    kept names is = (
      λ d. (d.0, d.1, go d.0 d.1 d.2),
      λ d. (
        d.0,
        d.1,
        tree_on declared_by kind_of (kept_named e.types (has names)) e.types
            (λ n v read. (kept_was_read e.types (has names) n v read).1) tree d.0 d.2,
      ),
    )
      where
        go : (n : Name) → declared_as e.declared name ≡ Some n → UnfoldsTo e.types n tree
            → UnfoldsTo (kept_named e.types (has names)) n tree
        go n at a =
            tree_kept declared_by kind_of _ e.types names is tree n
            (root_kept (declared_types e.declared) (types_of e.types) names is n
            (listed _ e.declared.entries n at)
            (entry_read declared_by e.types n ∙ tree_read declared_by kind_of e.types tree n a)) a

    -- and after a collection
    pub declares_collected : (new : State TypeNode) (r : Result Collected AllocError)
        → IfOk r (λ told. (names : List Name)
        × IsCollection (starts_with (declared_types e.declared) (types_of e.types)) (types_of e.types) names told
        × (new ≡ kept_named e.types (has names)))
        → OnErr r (new ≡ e.types)
        → Declares e name tree ↔ Declares (over new) name tree
    declares_collected new r is err =
        one_collected declared_by (starts_with (declared_types e.declared) (types_of e.types)) e.types new
        r (is, err) (λ s. Declares e name tree ↔ Declares (over s) name tree) (λ d. d, λ d. d) kept

-- a type under the symbol of a name, and each other as it was
pub declared_on : {S : Type 0} (eq : SymbolRef → SymbolRef → Bool)
    → ((a b : SymbolRef) → (eq a b ≡ true) ↔ (symbol_ref_name a ≡ symbol_ref_name b))
    → (m n : HashMap SymbolRef (Ref (Values TypeNode)) S) (key : SymbolRef) (v : Ref (Values TypeNode))
    → ((q : SymbolRef) → get eq n q ≡ cond (eq key q) (Some v) (get eq m q)) → (a : Named)
    → declared_as n a ≡ cond (same_named (symbol_ref_name key) a) (Some (ref_name v)) (declared_as m a)
declared_on eq alike m n key v put a =
    ap (option_map ref_name) (symbols_changed eq alike m n key (Some v) put a)
    ∙ through (same_named (symbol_ref_name key) a) (under_symbol m a)
  where
    through : (t : Bool) (o : Option (Ref (Values TypeNode)))
        → option_map ref_name (cond t (Some v) o) ≡ cond t (Some (ref_name v)) (option_map ref_name o)
    through true o = refl
    through false o = refl

-- under another name stays what was
pub others_stay : {S : Type 0} (m n : HashMap SymbolRef (Ref (Values TypeNode)) S)
    (key : SymbolRef) (v : Name) (a : Named)
    → declared_as n a ≡ cond (same_named (symbol_ref_name key) a) (Some v) (declared_as m a)
    → same_named (symbol_ref_name key) a ≡ false → declared_as n a ≡ declared_as m a
others_stay m n key v a is apart = is ∙ ap (λ t. cond t (Some v) (declared_as m a)) apart

module _ (old new : Environment) (a : Named) (tree : Tree) where
  -- what is declared with the same type stands for the same tree
  pub same_declared : new.types ≡ old.types → declared_as new.declared a ≡ declared_as old.declared a
      → Declares old a tree ↔ Declares new a tree
  same_declared types same = (
    λ d. (d.0, same ∙ d.1, subst (λ s. UnfoldsTo s d.0 tree) (sym types) d.2),
    λ d. (d.0, sym same ∙ d.1, subst (λ s. UnfoldsTo s d.0 tree) types d.2),
  )

  -- and in an environment that has grown
  pub declared_grown : Grows old new → Declares old a tree → Declares new a tree
  declared_grown grows d = (
    d.0,
    ap (λ m. declared_as m a) grows.0 ∙ d.1,
    tree_on declared_by kind_of old.types new.types grows.1 tree d.0 d.2,
  )
