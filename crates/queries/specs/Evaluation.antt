-- Evaluation from nothing, and cycles.
use Rattle.std.specs.Prelude.{◌≡◌, ℕ, zero, suc, List, Contains}
use Rattle.std.specs.List.{AllZip}
use Rattle.queries.specs.declared.key.Key.{Key}
use Rattle.queries.specs.declared.value.Answer.{Answer}
use Rattle.queries.specs.declared.value.Answer.TheVariants as answer
use Rattle.queries.specs.declared.value.Value.{Value}
use Rattle.queries.specs.Sheet.{Formulas, reads_of, gives}

module _ (sheet : Formulas) where
  -- a query's value, if what it reads goes at most so deep: what it gives from the values of what
  -- it reads
  abbrev pub EvaluatesIn : ℕ → Key → Value → Type 0
  EvaluatesIn zero key value = ⊥
  EvaluatesIn (suc depth) key value = (values : List Value)
      × AllZip (EvaluatesIn depth) (reads_of sheet key) values × (value ≡ gives sheet key values)

  -- a query's value
  abbrev pub Evaluates : Key → Value → Type 0
  Evaluates key value = (depth : ℕ) × EvaluatesIn depth key value

  -- so many reads lead from one query to another
  abbrev pub LeadsIn : ℕ → Key → Key → Type 0
  LeadsIn zero from to = from ≡ to
  LeadsIn (suc steps) from to =
      (next : Key) × Contains (reads_of sheet from) next × LeadsIn steps next to

  -- a query leads to one that leads back to itself
  pub record LeadsToCycle (key through : Key) : Type 0 where
    pub before : ℕ
    pub reaches : LeadsIn before key through
    pub around : ℕ
    pub returns : LeadsIn (suc around) through through

  -- a query has no value
  abbrev pub HasNoValue : Key → Type 0
  HasNoValue key = (value : Value) → Evaluates key value → ⊥

  -- the answer is the query's value, or a cycle for which it has none
  abbrev pub IsRight : Key → Answer → Type 0
  IsRight key (answer.Value value) = Evaluates key value
  IsRight key (answer.Cycle through) = LeadsToCycle key through

  -- what the answer to a query says: its value, and that it has no other, or a cycle that it leads
  -- to, and that it has no value
  abbrev pub Answers : Key → Answer → Type 0
  Answers key (answer.Value value) =
      Evaluates key value × ((other : Value) → Evaluates key other → other ≡ value)
  Answers key (answer.Cycle through) = LeadsToCycle key through × HasNoValue key
