-- A code for the trees, by the code of those with boxes.
use Rattle.std.specs.Prelude.{◌≡◌, refl}
use Rattle.std.specs.Global.{Box}
use denote.RawPtr.{null_ptr}
use Rattle.std.specs.Coded.{Coded, code_by}
use Rattle.std.proofs.Common.{ap, ap₂, ◌∙◌}
use Rattle.stm_terms.specs.declared.expr.Expr.{Expr}
use Rattle.stm_terms.specs.declared.expr.Expr.TheVariants.{Lit, Local, Global, Bin'}
use Rattle.stm_terms.specs.declared.action.Action.{Action}
use Rattle.stm_terms.specs.declared.action.Action.TheVariants.{Return, Read, Write, Make, Retry, Throw, If', OrElse', Bind', Let', Seq', Catch'}
use Rattle.stm_terms.specs.Ast.{Term, lit, local, global, bin, Act, return, read, write, make, retry, throw, if_else, or_else, bind, let_in, seq, catch, term_of, act_of}
use Rattle.stm_terms.specs.contracts.action.Action as tree

-- a box at no place in memory
abbrev nowhere : Box (Unit {0})
nowhere = record { ptr = null_ptr; alloc = record { memory = record { seal = tt } }; value = tt }

-- an expression in boxes that lie nowhere
abbrev boxed_term : Term → Expr
boxed_term (lit v) = Lit v
boxed_term (local i) = Local i
boxed_term (global i) = Global i
boxed_term (bin op a b) = Bin' op nowhere (boxed_term a) nowhere (boxed_term b)

-- an action in such boxes
abbrev boxed : Act → Action
boxed (return e) = Return (boxed_term e)
boxed (read e) = Read (boxed_term e)
boxed (write r e) = Write (boxed_term r) (boxed_term e)
boxed (make t e) = Make t (boxed_term e)
boxed retry = Retry
boxed (throw e) = Throw (boxed_term e)
boxed (if_else e a b) = If' (boxed_term e) nowhere (boxed a) nowhere (boxed b)
boxed (or_else a b) = OrElse' nowhere (boxed a) nowhere (boxed b)
boxed (bind a b) = Bind' nowhere (boxed a) nowhere (boxed b)
boxed (let_in e b) = Let' (boxed_term e) nowhere (boxed b)
boxed (seq a b) = Seq' nowhere (boxed a) nowhere (boxed b)
boxed (catch a b) = Catch' nowhere (boxed a) nowhere (boxed b)

-- out of its boxes an expression is the one that was put in
term_back : (e : Term) → term_of (boxed_term e) ≡ e
term_back (lit v) = refl
term_back (local i) = refl
term_back (global i) = refl
term_back (bin op a b) = ap₂ (λ x y. bin op x y) (term_back a) (term_back b)

-- out of its boxes an action is the one that was put in
pub act_back : (a : Act) → act_of (boxed a) ≡ a
act_back (return e) = ap return (term_back e)
act_back (read e) = ap read (term_back e)
act_back (write r e) = ap₂ (λ x y. write x y) (term_back r) (term_back e)
act_back (make t e) = ap (λ x. make t x) (term_back e)
act_back retry = refl
act_back (throw e) = ap throw (term_back e)
act_back (if_else e a b) =
    ap (λ x. if_else x (act_of (boxed a)) (act_of (boxed b))) (term_back e)
    ∙ ap₂ (λ x y. if_else e x y) (act_back a) (act_back b)
act_back (or_else a b) = ap₂ (λ x y. or_else x y) (act_back a) (act_back b)
act_back (bind a b) = ap₂ (λ x y. bind x y) (act_back a) (act_back b)
act_back (let_in e b) = ap₂ (λ x y. let_in x y) (term_back e) (act_back b)
act_back (seq a b) = ap₂ (λ x y. seq x y) (act_back a) (act_back b)
act_back (catch a b) = ap₂ (λ x y. catch x y) (act_back a) (act_back b)

-- actions have a code, since those in boxes have one
abbrev pub act_code : Coded Act
act_code = code_by Action tree.the_row.coded boxed act_of act_back
