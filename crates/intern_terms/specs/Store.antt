-- What a store of terms holds, and the words of its contracts.
use Rattle.std.specs.Prelude.{ℕ, Bool, ◌&&◌, if◌then◌else◌, List, [], ◌∷◌, map as list_map, Option}
use Rattle.std.specs.Cmp.Lexicographic.{pointwise}
use Rattle.std.specs.FinMap as map
use Rattle.std.specs.Option.{option_or}
use Rattle.ra_ap_intern.specs.Families.{entries_of, sliced_children}
use Rattle.ra_ap_intern.specs.Name.{Name}
use Rattle.ra_ap_intern.specs.Order.{IsBuilt as IsBuiltOf, due_each}
use Rattle.ra_ap_intern.specs.Reach.{Entry}
use Rattle.ra_ap_intern.specs.Refusal.{Refusal}
use Rattle.ra_ap_intern.specs.Named.{same_name}
use Rattle.ra_ap_intern.specs.Sliced.{Sliced}
use Rattle.ra_ap_intern.specs.Slices.{due_slice, is_new_slice}
use Rattle.ra_ap_intern.specs.State.{State, IsState, name_in, counted_up, full}
use Rattle.ra_ap_intern.specs.Symbols.{at_entry, due_of, given_up, same_named, symbol_name}
use Rattle.ra_ap_intern.specs.declared.symbol.Symbol.{Symbol}
use Rattle.intern_terms.specs.Handle.{term_name}
use Rattle.intern_terms.specs.declared.handle.TermRef.{TermRef}

-- what a term is: its head, with its arguments
abbrev pub Node : Type 0
Node = Sliced Symbol TermRef

-- the names of a term's arguments, in order
abbrev pub arguments : Sliced Symbol TermRef → List Name
arguments v = list_map term_name v.items

-- whether two terms have the same head, and the same arguments in order
abbrev pub same_node : Sliced Symbol TermRef → Sliced Symbol TermRef → Bool
same_node v w = same_named (symbol_name v.header) (symbol_name w.header)
    && pointwise (λ a b. same_name (term_name a) (term_name b)) v.items w.items

-- the name of each term
abbrev pub names_in : State (Sliced Symbol TermRef) → List Name
names_in s = list_map (λ e. name_in s e.0) (map.entries s.map)

-- each argument of each term is an earlier term
abbrev pub IsBuilt : State (Sliced Symbol TermRef) → Type 0
IsBuilt s = IsBuiltOf arguments s

-- what holds of every store: no two terms have the same head and the same arguments, and each
-- argument of a term is an earlier term
pub record IsTerms (s : State (Sliced Symbol TermRef)) : Type 0 where
  pub state : IsState same_node s
  pub built : IsBuilt s

-- the refusal of a call that stores a term, before want of memory: what its first argument that
-- can't be read decides, or else, where the term isn't stored, that births are used up
abbrev pub due_term : State (Sliced Symbol TermRef) → Symbol → List TermRef → Option Refusal
due_term s head args = option_or (due_each s (list_map term_name args))
    (due_slice same_node s head args)

-- the same of a call that first counts the head in a table
abbrev pub due_term_of : State Node → State (List ℕ) → Symbol → List TermRef → Option Refusal
due_term_of s heads head args =
    option_or (due_of heads (symbol_name head) (full heads.top)) (due_term s head args)

-- a table, in which the head of a term is counted once more where the term isn't stored yet
abbrev pub with_head : State Node → State (List ℕ) → Symbol → List TermRef → State (List ℕ)
with_head s heads head args =
    if is_new_slice same_node s head args then at_entry counted_up heads (symbol_name head) else heads

-- what a term declares: its arguments
abbrev pub declared_by : Sliced Symbol TermRef → List Name
declared_by = sliced_children (λ _. []) (λ items. list_map term_name items)

-- a store's terms, as a collection sees them
abbrev pub terms_of : State (Sliced Symbol TermRef) → List Entry
terms_of s = entries_of declared_by s

-- a table, once the heads of the terms that aren't kept gave up their counts, in this order
abbrev pub without_heads : (Name → Bool) → List (Name × (Node × ℕ)) → State (List ℕ)
    → State (List ℕ)
without_heads kept [] heads = heads
without_heads kept (term ∷ terms) heads = without_heads kept terms
    (if kept term.0 then heads else given_up heads (symbol_name term.1.0.header))
