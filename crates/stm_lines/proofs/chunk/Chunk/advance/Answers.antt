use Rattle.std.proofs.Common.{◌≡◌, ℕ, ◌+◌, ◌-◌, ◌≤◌, List, length, take, drop, sym, ap, ◌∙◌, arith}
use Rattle.std.proofs.lemmas.List.{drop-take, drop-drop, length-take}
use Rattle.stm_lines.proofs.chunk.Chunk.advance.Goals as goal

-- bytes fewer from the front of a part
fewer : (bytes now : List ℕ) (at n end : ℕ) → at ≤ end → take (end - at) (drop at bytes) ≡ now → n ≤ length now → take (end - (at + n)) (drop (at + n) bytes) ≡ drop n now
fewer bytes now at n end h e l =
    let rest : end - at ≡ n + (end - (at + n)) = omega (arith, ap length e, length-take (end - at) (drop at bytes)) in
    sym (ap (λ k. drop n (take k (drop at bytes))) rest ∙ drop-take n (end - (at + n)) (drop at bytes) ∙ ap (take (end - (at + n))) (drop-drop n at bytes)) ∙ ap (drop n) e

pub returns : goal.returns
returns c = fewer c.self.inside.buffer c.args.self.now c.self.inside.at c.args.count c.self.inside.end (c.self.invariant.0) c.self.view_is c.requires
