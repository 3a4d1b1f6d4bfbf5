-- What a storage lends, and what is left of it once that ends.
use Rattle.std.specs.Prelude.{ℕ, List, Result}
use Rattle.std.specs.Borrow.{LendsIfOk, MutBor, Fml, RattleType}
use Rattle.std.specs.declared.cmp.PartialEq as equal
use Rattle.std.specs.declared.hash.BuildHasher as build
use Rattle.std.specs.declared.hash.Hasher as hash
use Rattle.intern_store.specs.State.{State, Stocked}
use Rattle.intern_store.specs.declared.entries.Entries as entries
use Rattle.ra_ap_intern.specs.contracts.storage.Reserved as reserved
use Rattle.ra_ap_intern.specs.contracts.storage.Storage as storage
use Rattle.ra_ap_intern.specs.contracts.symbol.ReservedTexts as texts
use Rattle.ra_ap_intern.specs.contracts.symbol.SymbolTable as table
use Rattle.ra_ap_intern.specs.declared.kind.Kind as kind

module _ (K B T V : RattleType) (k : kind.Ghosts K.Denot B.Denot T.Denot V.Denot)
    (e : entries.Ghosts T.Denot V.Denot B.Denot) (q : equal.Ghosts V.Denot) where
  -- the storage ends with the entries that what it lent has at last, or as it was
  abbrev pub LendsEntries : {E : Type 0} → MutBor (State V.Denot)
      → Result (MutBor (Stocked V.Denot B.Denot)) E → Fml
  LendsEntries s r =
      LendsIfOk (storage.the_row K B T V k e q) (reserved.the_row K B T V k e q) s r
      (λ x. x.state) s.now

module _ (B H : RattleType) (b : build.Ghosts B.Denot H.Denot) (h : hash.Ghosts H.Denot) where
  -- the same of a table of symbols
  abbrev pub LendsTexts : {E : Type 0} → MutBor (State (List ℕ))
      → Result (MutBor (Stocked (List ℕ) B.Denot)) E → Fml
  LendsTexts s r =
      LendsIfOk (table.the_row B H b h) (texts.the_row B H b h) s r (λ x. x.state) s.now
