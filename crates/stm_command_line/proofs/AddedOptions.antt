-- A command takes option after option.
use Rattle.std.proofs.Common.{◌≡◌, Bool, false, ◌||◌, Result, Ok, Err, ap, ◌∙◌}
use Rattle.std.specs.Prelude.{IfOk}
use Rattle.clap.specs.Walk.{Rule, rule_of}
use Rattle.clap.specs.Words.{AddsArg, App, app_of, with_rule}
use Rattle.clap.specs.declared.builder.arg.Arg.{Arg}
use Rattle.clap.specs.declared.builder.command.Command.{Command}
use Rattle.clap.specs.declared.builder.command.Command.TheViews.{out-Command as fields_of}

-- the command takes what is said, and none of its options holds for subcommands
abbrev pub IsCommand : Command → App → Type 0
IsCommand c app = (app_of c ≡ app) × ((fields_of c).has_globals ≡ false)

-- with an option more
pub option_added : (old new : Command) (arg : Arg) (app : App) (rule : Rule) → IsCommand old app → AddsArg old arg new → rule_of arg ≡ rule → arg.global ≡ false → IsCommand new (with_rule app rule)
option_added old new arg app rule h adds is local = (
  adds.shape local ∙ ap (λ (r : Rule). with_rule (app_of old) r) is ∙ ap (λ (a : App). with_rule a rule) h.0,
  adds.globals ∙ ap (λ (b : Bool). b || arg.global) h.1 ∙ local,
)

-- with the last option, if memory doesn't run out
pub last_added : {E : Type 0} → (old : Command) (new : Result Command E) (arg : Arg) (app : App) (rule : Rule) → IsCommand old app → IfOk new (λ c. AddsArg old arg c) → rule_of arg ≡ rule → arg.global ≡ false
    → IfOk new (λ c. app_of c ≡ with_rule app rule) × IfOk new (λ c. (fields_of c).has_globals ≡ false)
last_added old (Ok new) arg app rule h adds is local = option_added old new arg app rule h adds is local
last_added old (Err e) arg app rule h adds is local = (tt, tt)
