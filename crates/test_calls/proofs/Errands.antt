-- What may go to another thread of what it is given.
use denote.Ref.{NamedLft}
use denote.RattleType.{RattleType}
use denote.Param.Send.{IsSend, IsSync, sendable}
use Rattle.std.specs.declared.sync.ledger.Ledger.{Ghosts}
use Rattle.std.proofs.Crossing.{crosses}
use Rattle.stm_pool.proofs.Crosses.{pass_send, shared_sync}
use Rattle.test_calls.specs.contracts.pool_gate.Errand as errand

module _ (κ : NamedLft) (L R : RattleType) (g : Ghosts L.Denot) where
  pub errand_send : IsSync R → IsSend (errand.the_row κ L R g)
  errand_send s = search (sendable, crosses, pass_send, shared_sync) depth 40 fits 100000
