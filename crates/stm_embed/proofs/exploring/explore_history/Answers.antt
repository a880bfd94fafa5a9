use Rattle.std.proofs.Common.{◌≡◌, length, vec_len, Some, ◌∙◌, rules}
use Rattle.stm_explore_script.proofs.Explorations.{faulty_by}
use Rattle.stm_embed.proofs.DiagnosedExplorations.{faulty_diagnosed, full_diagnosed, incomplete_diagnosed, refused_diagnosed, right_diagnosed}
use Rattle.stm_embed.proofs.WrittenExplorations.{history_by, history_written, no_history}
use Rattle.stm_embed.proofs.exploring.explore_history.Goals as goal

pub returns-in_ok-add_warnings-in-Ok : goal.returns-in_ok-add_warnings-in-Ok
returns-in_ok-add_warnings-in-Ok c =
    let found = c.write_fault_history.new.writer in
    let l : vec_len found ≡ length found.items = search rules in
    let e = c.in_ok-add_warnings-in-Ok.ensures in
    right_diagnosed _ c.args.script.now c.args.options found.items c.add_warnings.new.text.items c.in_ok-add_warnings-in-Ok.field-0 _ _ c.requires.history c.deref.ensures.value
    (no_history _ c.args.options c.args.script.now _ _ _ c.requires.history c.requires.empty c.in-Ok.ensures.0) c.in-Ok.ensures.1 (e.0 ∙ l, e.1)

pub returns-in-Err-Faulty : goal.returns-in-Err-Faulty
returns-in-Err-Faulty c =
    let found = c.write_fault_history.new.writer in
    let l : vec_len found ≡ length found.items = search rules in
    faulty_diagnosed c.args.script.now c.args.options found.items c.len.result
    (history_written _ c.args.options c.args.script.now _ _ c.requires.history c.requires.empty (history_by c.args.options (Some c.args.script.now) (Some c.args.text.now.items) (Some found.items) _ _ c.in-Err-Faulty.field-0-is c.in-Err-Faulty.ensures)) (c.len.ensures ∙ l)

pub returns-in_ok-length-in-Err-Incomplete : goal.returns-in_ok-length-in-Err-Incomplete
returns-in_ok-length-in-Err-Incomplete c =
    let found = c.write_fault_history.new.writer in
    let l : vec_len found ≡ length found.items = search rules in
    let e = c.in_ok-length-in-Err-Incomplete.ensures in
    incomplete_diagnosed _ c.args.script.now c.args.options found.items c.add_reason.new.text.items c.in_ok-length-in-Err-Incomplete.length c.requires.history
    (no_history _ c.args.options c.args.script.now _ _ _ c.requires.history c.requires.empty (history_by c.args.options (Some c.args.script.now) (Some c.args.text.now.items) (Some found.items) _ _ c.in-Err-Incomplete.field-0-is c.in-Err-Incomplete.ensures)) (e.0 ∙ l, e.1)

pub returns-in_ok-length-in-Err-Script : goal.returns-in_ok-length-in-Err-Script
returns-in_ok-length-in-Err-Script c =
    let found = c.write_fault_history.new.writer in
    let l : vec_len found ≡ length found.items = search rules in
    let e = c.in_ok-length-in-Err-Script.ensures in
    let w = history_by c.args.options (Some c.args.script.now) (Some c.args.text.now.items) (Some found.items) _ _ c.in-Err-Script.field-0-is c.in-Err-Script.ensures in
    refused_diagnosed c.args.script.now c.args.options found.items c.add_reason-in-Err-Script.new.text.items c.in_ok-length-in-Err-Script.length c.in-Err-Script.fault w.0 (w.1 ∙ c.requires.empty)
    (e.0 ∙ l, e.1)

pub returns-in_ok-length-in-Err-NoRoom : goal.returns-in_ok-length-in-Err-NoRoom
returns-in_ok-length-in-Err-NoRoom c =
    let found = c.write_fault_history.new.writer in
    let l : vec_len found ≡ length found.items = search rules in
    let e = c.in_ok-length-in-Err-NoRoom.ensures in
    let w = history_by c.args.options (Some c.args.script.now) (Some c.args.text.now.items) (Some found.items) _ _ c.in-Err-NoRoom.field-0-is c.in-Err-NoRoom.ensures in
    full_diagnosed c.args.script.now c.args.options found.items c.add_reason-in-Err-NoRoom.new.text.items c.in_ok-length-in-Err-NoRoom.length c.requires.history
    (faulty_by c.args.script.now c.args.options w.0) (w.1 ∙ c.requires.empty) (e.0 ∙ l, e.1)
