-- What registering a family does.
use Rattle.std.specs.Prelude.{◌≡◌, ◌+◌, Bool, ◌&&◌, ◌||◌, List, [], ◌∷◌, length}
use Rattle.std.specs.Option.{option_or}
use Rattle.std.specs.FinMap as map
use Rattle.intern_store.specs.declared.names.Name.{Name}
use Rattle.intern_marks.specs.Marks.{Marks, IsSound}
use Rattle.intern_marks.specs.Names.{has, name_cmp}
use Rattle.intern_marks.specs.Reach.{Entry, is_counted, starts}
use Rattle.intern_marks.specs.Trace.{counted_in}

-- the names of a family, each with whether its entry is counted
unfoldable pub known : List Entry → map.FinMap name_cmp Bool
known [] = map.empty
known (e ∷ family) = map.insert (known family) e.name (is_counted e.count)

-- the entries of a family were registered beside what was known, the counted ones as roots or not
pub record Learns (roots : Bool) (family : List Entry) (old new : Marks) : Type 0 where
  pub registered : (name : Name) → map.get new.registered name
      ≡ option_or (counted_in family name) (map.get old.registered name)
  pub size : map.len new.registered ≡ map.len old.registered + length family
  pub marked : (name : Name) → has new.marked name
      ≡ (has old.marked name || (roots && starts family name))
  pub sound : IsSound old.registered old.marked → IsSound new.registered new.marked
  pub visits : new.visits ≡ old.visits
  pub calls : new.calls ≡ old.calls
