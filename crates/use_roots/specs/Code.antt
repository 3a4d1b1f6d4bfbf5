-- What names, classes and methods declare, and what a collection of all three sees and leaves.
use Rattle.std.specs.Prelude.{Bool, List, [], ◌∷◌, ◌++◌}
use Rattle.std.specs.List.{flat_map}
use Rattle.ra_ap_intern.specs.Families.{entries_of, kept_named}
use Rattle.ra_ap_intern.specs.Name.{Name}
use Rattle.ra_ap_intern.specs.Reach.{Entry, starts_with}
use Rattle.ra_ap_intern.specs.State.{State}
use Rattle.ra_ap_intern.specs.Visitors.{own_name}
use Rattle.ra_ap_intern.specs.declared.gc.family.Pair.{Pair}
use Rattle.use_roots.specs.declared.Word.{Word}
use Rattle.use_roots.specs.declared.Class.{Class, out-Class}
use Rattle.use_roots.specs.declared.Method.{Method}

abbrev pub Code : Type 0
Code = Pair (Pair (State Word) (State Class)) (State Method)

-- its three storages
abbrev pub names_in : Code → State Word
names_in code = code.first.first

abbrev pub classes_in : Code → State Class
classes_in code = code.first.second

abbrev pub methods_in : Code → State Method
methods_in code = code.second

abbrev pub of_word : Word → List Name
of_word w = []

abbrev pub of_class : Class → List Name
of_class c = own_name (out-Class c).0 ++ flat_map own_name (out-Class c).1.items

abbrev pub of_method : Method → List Name
of_method m = own_name m.0 ++ own_name m.1

-- the entries of all three
abbrev pub entries_in : Code → List Entry
entries_in code =
    (entries_of of_word (names_in code) ++ entries_of of_class (classes_in code))
    ++ entries_of of_method (methods_in code)

-- a collection begins at a class and a method, and at what is counted
abbrev pub begins_at : Name → Name → Code → Name → Bool
begins_at class method code = starts_with (class ∷ method ∷ []) (entries_in code)

-- code with the entries alone whose names are in a set
abbrev pub cut : Code → (Name → Bool) → Code
cut code set = record {
  first = record {
    first = kept_named (names_in code) set;
    second = kept_named (classes_in code) set;
  };
  second = kept_named (methods_in code) set;
}
