use Rattle.std.specs.Prelude.{option_map}
use Rattle.std.proofs.KnownBytes.{Appends-trans}
use Rattle.stm_history_text.proofs.TextInParts.{front_in, part_after, part_within, whole_in}
use Rattle.stm_history_text.proofs.writing.write_history.Goals as goal

pub returns-in-Err : goal.returns-in-Err
returns-in-Err g c = front_in _ _ c.args.table.now (option_map (λ x. x.now) c.args.checkpoint) c.args.history.now _ _ c.format_for-format.ensures (part_within _ _ _ _ c.in-Err.ensures)

pub returns-in-Err-write_events : goal.returns-in-Err-write_events
returns-in-Err-write_events g c = front_in _ _ c.args.table.now (option_map (λ x. x.now) c.args.checkpoint) c.args.history.now _ _ c.format_for-format.ensures (part_after _ _ _ _ _ c.in-Ok.ensures c.in-Err-write_events.ensures)

pub returns-in-Ok-write_events : goal.returns-in-Ok-write_events
returns-in-Ok-write_events g c = whole_in _ _ c.args.table.now (option_map (λ x. x.now) c.args.checkpoint) c.args.history.now _ _ c.format_for-format.ensures (Appends-trans _ _ _ _ _ c.in-Ok.ensures c.in-Ok-write_events.ensures)
