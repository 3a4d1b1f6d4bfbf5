use Rattle.std.proofs.Common.{◌≡◌, IsPermutation, Ok, Global, subst, sym, refl}
use Rattle.std.specs.declared.alloc.AllocError.{AllocError}
use Rattle.std.specs.List.{IsDistinct}
use Rattle.std.specs.Map.Iter.{TakesFirst, deref}
use Rattle.std.proofs.lemmas.Iterator.{YieldsList, items_from_collect}
use Rattle.std.proofs.lemmas.Iterator.Consumers.{YieldsList-from_copied, YieldsList-from_rest}
use Rattle.std.proofs.lemmas.Map.Keys.{IsDistinct-IsPermutation}
use Rattle.queries.proofs.Equal.{places_alike}
use Rattle.queries.proofs.Sheets.{keys_are_cells, places_rise, same_places_flip}
use Rattle.queries.proofs.sheet.Sheet.places.Goals as goal

pub returns : goal.returns
returns c =
    let run : YieldsList (TakesFirst deref) (λ y. y.now) c.keys.result c.keys.result =
    YieldsList-from_rest c.keys.result refl in
    let copied = YieldsList-from_copied
    (subst (λ s. YieldsList (TakesFirst deref) (λ y. y.now) s c.keys.result) (sym c.copied.ensures.source) run) in
    let items : c.in_ok-places.places.items ≡ c.keys.result =
    items_from_collect {Z = Global} {E = AllocError} (Ok c.in_ok-places.places) c.in_ok-places.ensures.ran copied in
    let same = places_alike in
    let moved = subst (λ l. IsPermutation l c.sort.new.self.items) items c.in_ok-sort.ensures.permutation in
    record {
      order = places_rise _ same c.sort.new.self.items c.in_ok-sort.ensures.sorted
          (IsDistinct-IsPermutation _ (same_places_flip _ same) c.keys.result c.sort.new.self.items
          moved (subst (IsDistinct _) (sym c.keys.ensures.rest) c.keys.ensures.unique));
      cells = keys_are_cells _ same c.self.inside.formulas.entries c.args.self.now c.self.view_is
          c.keys.result c.sort.new.self.items c.keys.ensures.has moved;
    }
