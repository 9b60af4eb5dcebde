use Rattle.std.proofs.Common.{arith, subst, take, List, ℕ, length, ◌≤◌, drop}
use Rattle.std.proofs.lemmas.List.{take_rest, length-drop}
use Rattle.std.specs.Io.KnownBytes.{Appends}
use Rattle.lpm_files.proofs.WrittenTexts.{stays, farther}
use Rattle.lpm_files.proofs.files.put_text.Goals as goal
use Rattle.lpm_files.proofs.files.put_text.Goals.{in-Ok, in-Err+else-ne}

pub loop-preserved : goal.loop-preserved
loop-preserved g c =
    let text = c.args.text.now in
    let at = c.loop.at in
    let wrote = c.loop.invariant.wrote in
    elim c.match-write.branch [
      | in-Ok w ↦
          let rest = take_rest text at in
          let bound : w.in-Ok.n ≤ length (drop at text) = subst (λ (t : List ℕ). w.in-Ok.n ≤ length t) rest w.in-Ok.ensures.bound in
          let more = subst (λ (t : List ℕ). Appends (g.W.Write.contents c.loop.out) (g.W.Write.contents c.write.new.self) (take w.in-Ok.n t)) rest w.in-Ok.ensures.bytes in
          record {
            within = omega (arith, length-drop at text, c.loop.invariant.within);
            wrote = rw w.at-is (farther _ _ _ text at w.in-Ok.n wrote more);
          }
      | in-Err+else-ne w ↦ record {
        within = omega (arith, c.loop.invariant.within);
        wrote = rw w.at-is (stays _ _ _ _ wrote w.in-Err.ensures.bytes);
      }
    ]
