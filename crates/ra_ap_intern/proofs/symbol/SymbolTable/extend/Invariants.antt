use Rattle.std.proofs.Common.{◌+◌, ◌≤◌, length, take, vec_len, vec_capacity, Bor, List, ℕ, map as list_map}
use Rattle.ra_ap_intern.specs.Symbols.{AddsTexts, symbol_name}
use Rattle.ra_ap_intern.proofs.symbol.SymbolTable.extend.Given as goal

-- the texts before the next were interned in turn, and there is room for the others' symbols
abbrev pub invariant-loop-text : goal.invariant-loop-text
invariant-loop-text g l = record {
  adds : AddsTexts l.fn.self l.self (list_map (λ (t : Bor (List ℕ)). t.now) (take l.text-index l.texts))
      (list_map symbol_name l.fn.symbols.items) (list_map symbol_name l.symbols.items);
  room : vec_len l.symbols + length l.texts ≤ vec_capacity l.symbols + l.text-index;
}
