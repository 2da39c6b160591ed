-- Checking a text: what reading answers, and then what judging answers, beside the rows and the links that were read.
use Prim.Native.Nat.{ℕ, ◌≤◌, min}
use mathlib.Core.List.{List}
use mathlib.Core.Path.{◌≡◌, ap, ◌∙◌, sym}
use lib.ListN.{length}
use Rattle.std.specs.Prelude.{Result as Either, Ok, Err}
use Rattle.ring.specs.Limits.{desk}
use Rattle.ring.specs.declared.types.Routed.{Routed}
use Rattle.ring.specs.declared.types.Link.{Link}
use Rattle.reasons.specs.Findings.{First}
use Rattle.reasons.specs.declared.finding.Finding.{Finding}
use Rattle.reasons.specs.declared.reason.Refusal.{Refusal}
use Rattle.judge.specs.Findings.{findings}
use Rattle.judge.proofs.Tests.{judged-is}
use Rattle.sheet.specs.ReadInto.{with_values}
use Rattle.sheet.specs.Read.{read_sheet}
use Rattle.ring.specs.Sheet.{sheet_in}
use Rattle.ring.specs.declared.types.Figures.{Figures}
use Rattle.checker.specs.Check.{line_of, judged_on, check_read, check}
use Rattle.checker.proofs.Reasons.{read-as}

module _ (s : List ℕ) (rs : List Routed) (ls : List Link) (answer : Either Figures Refusal) (e : with_values rs ls answer ≡ read_sheet desk s) where
  pub read-refused : (x : Refusal) → answer ≡ Err x → with_values rs ls (Err x) ≡ check desk s
  unfolding check
  read-refused x a = ap (check_read desk) (sym (ap (with_values rs ls) a) ∙ e)

  module _ (x : Figures) (a : answer ≡ Ok x) where
    read : read_sheet desk s ≡ with_values rs ls (Ok x)
    read = sym e ∙ ap (with_values rs ls) a

    pub links-there : x.ring.nodes ≤ desk.nodes
    links-there = ((read-as s (sheet_in x rs ls)).0 read).range.within.many

    module _ (held : List Link) (same : held ≡ ls) (v : Either Unit Finding) (first : First (findings desk (sheet_in x rs held)) v) where
      judged-so : check desk s ≡ judged_on (sheet_in x rs ls) v
      unfolding check
      judged-so = ap (check_read desk) read ∙ ap (judged_on (sheet_in x rs ls)) (sym (judged-is (sheet_in x rs ls) v (rw same at first)))

      pub fine-so : (u : Unit) → v ≡ Ok u → with_values rs ls (Ok x) ≡ check desk s
      unfolding judged_on
      fine-so u q = sym (judged-so ∙ ap (judged_on (sheet_in x rs ls)) q)

      pub found-so : (f : Finding) → v ≡ Err f → (many line byte : ℕ) → many ≡ length rs → line ≡ line_of many x.ring.nodes f.reason f.place → byte ≡ min line 1
          → with_values rs ls (Err (record { reason = f.reason; line = line; byte = byte })) ≡ check desk s
      unfolding judged_on
      found-so f q many line byte m l b = rw (b, l, m) (sym (judged-so ∙ ap (judged_on (sheet_in x rs ls)) q))
