use Rattle.std.proofs.Common.{◌≡◌, List, ℕ, codes, ap, ◌∙◌, subst}
use Rattle.std.proofs.lemmas.Result.{on_ok_weaker}
use Rattle.serde_json.specs.Data.{string}
use Rattle.stm_check.specs.TypedBlock.{Block}
use Rattle.stm_event_lines.specs.Sending.{SendsMember}
use Rattle.stm_event_lines.proofs.write.send_submitted.Goals as goal

pub returns : goal.returns
returns g c =
    let w = g.S.Serializer.written in
    let text : c.text.result.now ≡ c.args.block.now.text = c.text.ensures ∙ ap (λ (b : Block). b.text) c.block.ensures in
    let block = subst (λ (t : List ℕ). SendsMember (codes "block") (string t) (w c.begin_map.new.self) (w c.send_text_at.new.out)) text c.in_ok-send_text_at.ensures in
    on_ok_weaker c.end_map.result (λ e. (w c.begin_map.new.self, c.in_ok-begin_map.ensures, (block.0, w c.send_text_at.new.out, block.1, block.2, (c.in_ok-send_number_at.ensures.0, w c.send_number_at.new.out, c.in_ok-send_number_at.ensures.1, c.in_ok-send_number_at.ensures.2, (c.in_ok-send_text_at-2.ensures.0, w c.send_text_at-2.new.out, c.in_ok-send_text_at-2.ensures.1, c.in_ok-send_text_at-2.ensures.2, (c.in_ok-send_number_at-2.ensures.0, w c.send_number_at-2.new.out, c.in_ok-send_number_at-2.ensures.1, c.in_ok-send_number_at-2.ensures.2, e)))))) c.end_map.ensures
