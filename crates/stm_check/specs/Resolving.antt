-- The block that a parsed block stands for: the same tree, with each name the number of a local or of a declared variable.
-- Types play no part in it.
use Rattle.std.specs.Prelude.{◌≡◌, ℕ, List, [], ◌∷◌, length, Option, Some, None, if◌then◌else◌, ⊤}
use Rattle.std.specs.Str.{bytes_eq}
use Rattle.stm_terms.specs.declared.values.Value.TheVariants as value
use Rattle.stm_terms.specs.Ast.{Term, lit, local, global, bin, Act, return, read, write, make, retry, throw, if_else, or_else, bind, let_in, seq, catch}
use Rattle.stm_terms.specs.ParsedAst as raw
use Rattle.stm_store.specs.Naming.{Named, number_named}

-- the number of the innermost local of a name, counted from the outermost; the names are innermost first
abbrev pub number_in : List ℕ → List (List ℕ) → Option ℕ
number_in name [] = None
number_in name (n ∷ outer) = if bytes_eq n name then Some (length outer) else number_in name outer

module _ (known : List Named) (text : List ℕ) where
  -- a name is a local if there is one of that name, else a declared variable
  abbrev pub IsNamed : List (List ℕ) → List ℕ → Term → Type 0
  IsNamed ns name (local i) = number_in name ns ≡ Some i
  IsNamed ns name (global i) = (number_in name ns ≡ None) × (number_named name known ≡ Some i)
  IsNamed ns name x = ⊥

  -- an expression is this term, with each name resolved
  abbrev pub IsTerm : List (List ℕ) → raw.RawTerm → Term → Type 0
  IsTerm ns (raw.int n at) x = x ≡ lit (value.Int n)
  IsTerm ns (raw.truth b at) x = x ≡ lit (value.Bool b)
  IsTerm ns (raw.unit at) x = x ≡ lit value.Unit
  IsTerm ns (raw.name span) x = IsNamed ns (raw.text_at text span) x
  IsTerm ns (raw.bin op a b) (bin or x y) = (op ≡ or) × IsTerm ns a x × IsTerm ns b y
  IsTerm ns (raw.bin op a b) x = ⊥

  -- an action is this tree, with each name resolved; the type of a new variable is left open
  abbrev pub IsAct : List (List ℕ) → raw.RawAct → Act → Type 0
  IsAct ns (raw.return e) (return x) = IsTerm ns e x
  IsAct ns (raw.read e) (read x) = IsTerm ns e x
  IsAct ns (raw.write r e) (write x y) = IsTerm ns r x × IsTerm ns e y
  IsAct ns (raw.make e) (make t x) = IsTerm ns e x
  IsAct ns raw.retry retry = ⊤
  IsAct ns (raw.throw e) (throw x) = IsTerm ns e x
  IsAct ns (raw.if_else e a at b) (if_else x y z) = IsTerm ns e x × IsAct ns a y × IsAct ns b z
  IsAct ns (raw.or_else a at b) (or_else y z) = IsAct ns a y × IsAct ns b z
  IsAct ns (raw.bind span at a b) (bind y z) = IsAct ns a y × IsAct (raw.text_at text span ∷ ns) b z
  IsAct ns (raw.let_in span e b) (let_in x z) = IsTerm ns e x × IsAct (raw.text_at text span ∷ ns) b z
  IsAct ns (raw.seq a b) (seq y z) = IsAct ns a y × IsAct ns b z
  IsAct ns (raw.catch a span at b) (catch y z) = IsAct ns a y × IsAct (raw.text_at text span ∷ ns) b z
  IsAct ns w a = ⊥
