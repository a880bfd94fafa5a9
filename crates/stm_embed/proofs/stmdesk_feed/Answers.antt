use Rattle.stm_embed.proofs.GivenToC.{ends_feeding, feeds}
use Rattle.stm_embed.proofs.stmdesk_feed.Goals as goal

pub returns-clause-fed : goal.returns-clause-fed
returns-clause-fed c = feeds _ _ _ _ _ _ _ _ _ _ c.lend-embedded.ensures.value c.take_lines-done.ensures.taken c.give-fed.ensures.few c.give-fed.ensures.given c.give-fed.ensures.room c.waiting-fed.ensures

pub returns-clause-status : goal.returns-clause-status
returns-clause-status c = ends_feeding _ _ _ _ _ _ _ c.lend-embedded.ensures.value c.take_lines-done.ensures.taken c.give-fed.ensures.console c.status.ensures
