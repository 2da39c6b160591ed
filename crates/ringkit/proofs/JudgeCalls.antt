-- The call that judges a sheet by its values keeps its promise: by what judging answers, which is the first of the findings.
use Rattle.std.proofs.Common.{Ok, Err, ◌≡◌, refl, sym}
use Rattle.ring.specs.Limits.{desk}
use Rattle.ring.specs.Sheet.{Sheet}
use Rattle.reasons.specs.Findings.{First}
use Rattle.reasons.specs.declared.finding.Finding.{Finding}
use Rattle.reasons.proofs.Findings.{one-answer}
use Rattle.judge.specs.Findings.{findings}
use Rattle.judge.proofs.Accepted.{fine-accepted, true-fine}
use Rattle.ringkit.specs.Judging.{Judged, valid, says_valid, says_fault, JudgePromise}

valid-no-fault : {f : Finding} → valid ≡ Err f → ⊥
valid-no-fault e = absurd (cc)

module _ (x : Sheet) where
  one : {r other : Judged} → First (findings desk x) r → First (findings desk x) other → r ≡ other
  one {r} {other} = one-answer (findings desk x) r other

  pub judge-promise : (r : Judged) → First (findings desk x) r → JudgePromise x r
  judge-promise (Ok tt) h =
      let p = fine-accepted x h in
      record { cases = says_valid p.0 p.1; accepts = (λ e. p, λ q. refl); refuses = λ reason place. (λ e. absurd (valid-no-fault e), λ g. one h g) }
  judge-promise (Err f) h =
      record {
        cases = says_fault f.reason f.place h;
        accepts = (λ e. absurd (valid-no-fault (sym e)), λ p. absurd (valid-no-fault (one (true-fine x p.0 p.1) h)));
        refuses = λ reason place. (λ e. rw e at h, λ g. one h g);
      }
