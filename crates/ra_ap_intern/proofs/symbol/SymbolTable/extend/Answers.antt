use Rattle.std.proofs.Common.{◌≡◌, ◌<◌, ◌+◌, vec_len, vec_capacity, ℕ, suc, Bor, List, [], ◌∷◌, ◌++◌, length, take, drop, get_or, map as list_map, inl, inr, refl, sym, ap, ◌∙◌, None, add-one, append_assoc, rules, arith}
use Rattle.std.proofs.Math.Seq.{take-suc}
use Rattle.std.proofs.lemmas.List.{append-nil, map-append, take-append-drop, take_all}
use Rattle.ra_ap_intern.specs.State.{State}
use Rattle.ra_ap_intern.specs.Symbols.{Named, AddsTexts, IsRefusedText, symbol_name, symbol_in, due_symbol}
use Rattle.intern_store.specs.declared.refusal.Refusal.TheVariants.{OutOfMemory}
use Rattle.ra_ap_intern.proofs.InTurn.{one_more}
use Rattle.ra_ap_intern.proofs.symbol.SymbolTable.extend.Goals as goal

-- the bytes of texts
abbrev bytes : List (Bor (List ℕ)) → List (List ℕ)
bytes = list_map (λ (t : Bor (List ℕ)). t.now)

-- those before one, it, and those behind
split : (texts : List (Bor (List ℕ))) (i : ℕ) (d : Bor (List ℕ)) → i < length texts
    → bytes texts ≡ bytes (take i texts) ++ (get_or texts i d).now ∷ bytes (drop (suc i) texts)
split texts i d lt =
    ap bytes (sym (take-append-drop (suc i) texts) ∙ ap (λ l. l ++ drop (suc i) texts) (take-suc texts i d lt)
    ∙ append_assoc (take i texts) (get_or texts i d ∷ []) (drop (suc i) texts))
    ∙ map-append (λ (t : Bor (List ℕ)). t.now) (take i texts) (get_or texts i d ∷ drop (suc i) texts)

-- one text more is interned
one_text : (old s : State (List ℕ)) (texts : List (Bor (List ℕ))) (i : ℕ) (d : Bor (List ℕ)) → i < length texts
    → (listed names : List Named) → AddsTexts old s (bytes (take i texts)) listed names
    → due_symbol s (get_or texts i d).now ≡ None
    → AddsTexts old (symbol_in s (get_or texts i d).now).table (bytes (take (i + 1) texts)) listed
    (names ++ (symbol_in s (get_or texts i d).now).symbol ∷ [])
one_text old s texts i d lt listed names adds free =
    rw (add-one i, take-suc texts i d lt, map-append (λ (t : Bor (List ℕ)). t.now) (take i texts) (get_or texts i d ∷ []))
    (one_more (λ s t. (symbol_in s t).table) (λ s t. (symbol_in s t).symbol) due_symbol old s _ listed names _ adds free)

-- the first of some texts is refused, before anything changed
first : (s : State (List ℕ)) (texts : List (Bor (List ℕ))) (listed : List Named) (no_room : Type 0) → 0 < length texts
    → no_room → IsRefusedText s s (bytes texts) listed listed no_room OutOfMemory
first s [] listed no_room some full = absurd (omega arith)
first s (t ∷ texts) listed no_room some full = record {
  done = [];
  text = t.now;
  left = bytes texts;
  texts = refl;
  adds = record { due = tt; state = refl; named = sym (append-nil listed) };
  why = inr (refl, refl, full);
}

pub returns-then-is_err-clause-refused : goal.returns-then-is_err-clause-refused
returns-then-is_err-clause-refused g c =
    let refused = c.if-is_err.true in
    rw (c.reserve.ensures.items)
    (first c.args.self.now c.args.texts.now (list_map symbol_name c.args.symbols.now.items) _ (search (rules, arith)) (search (rules, arith)))

pub loop-text-init : goal.loop-text-init
loop-text-init g c = record {
  adds = record { due = tt; state = refl; named = ap (list_map symbol_name) c.reserve.ensures.items ∙ sym (append-nil _) };
  room = search rules;
}

pub returns-in_err-symbol-clause-refused : goal.returns-in_err-symbol-clause-refused
returns-in_err-symbol-clause-refused g c =
    let r : IsRefusedText c.args.self.now c.loop-text.self (bytes c.args.texts.now) (list_map symbol_name c.args.symbols.now.items)
    (list_map symbol_name c.loop-text.symbols.items) (vec_capacity c.args.symbols.now < vec_len c.args.symbols.now + length c.args.texts.now)
    c.in_err-symbol.field-0.0 = record {
      done = bytes (take c.loop-text.text-index c.args.texts.now);
      text = _;
      left = bytes (drop (suc c.loop-text.text-index) c.args.texts.now);
      texts = split c.args.texts.now c.loop-text.text-index _ c.loop-text-test.true;
      adds = c.loop-text.invariant.adds;
      why = inl c.in_err-symbol.ensures.refused;
    } in
    rw (c.in_err-symbol.ensures.state) (search (rules, r))

pub push_reserved-requires : goal.push_reserved-requires
push_reserved-requires g c = omega (arith, c.loop-text.invariant.room, c.loop-text-test.true)

pub loop-text-preserved : goal.loop-text-preserved
loop-text-preserved g c =
    let names = list_map symbol_name c.loop-text.symbols.items in
    let turn = one_text c.args.self.now c.loop-text.self c.args.texts.now c.loop-text.text-index _ c.loop-text-test.true _ names
    c.loop-text.invariant.adds c.in_ok-symbol.ensures.refused in
    record {
      adds = record {
        due = turn.due;
        state = c.in_ok-symbol.ensures.state ∙ turn.state;
        named = ap (list_map symbol_name) c.push_reserved.ensures.items
            ∙ map-append symbol_name c.loop-text.symbols.items (c.in_ok-symbol.symbol ∷ [])
            ∙ ap (λ n. names ++ n ∷ []) c.in_ok-symbol.ensures.ok ∙ turn.named;
      };
      room = omega (arith, c.loop-text.invariant.room, c.push_reserved.ensures.len, c.push_reserved.ensures.capacity);
    }

pub returns-clause-ok : goal.returns-clause-ok
returns-clause-ok g c =
    rw (← take_all c.loop-text.text-index c.args.texts.now (omega (arith, c.loop-text-test.false))) c.loop-text.invariant.adds
