-- Names in lists, and in order.
use Rattle.std.specs.Prelude.{Bool, List}
use Rattle.std.specs.List.{list_any}
use Rattle.std.specs.declared.cmp.Ordering.{Ordering}
use Rattle.std.specs.Ordering.{on, then_cmp, nat_cmp}
use Rattle.intern_store.specs.Named.{same_name}
use Rattle.intern_store.specs.declared.names.Name.{Name}

-- whether a name is in a list
abbrev pub has : List Name → Name → Bool
has names name = list_any (same_name name) names

-- the order of names: that of their storages' numbers, and then that of their births
abbrev pub name_cmp : Name → Name → Ordering
name_cmp = then_cmp (on (λ n. n.storage) nat_cmp) (on (λ n. n.birth) nat_cmp)
