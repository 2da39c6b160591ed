-- Link by link: what is given of the links that are left is given of all, by the links that are due; and nothing is found exactly where each is true.
use Rattle.std.proofs.Common.{ℕ, ◌+◌, ◌≤◌, zero, suc, List, [], ◌∷◌, map, Result, inl, inr, ◌≡◌, refl, ap, ap₂, sym, ◌∙◌, length, drop, arith}
use Rattle.ring.specs.declared.types.Link.{Link}
use Rattle.ring.specs.Lists.{Each, none, more}
use Rattle.ring.specs.Sheet.{Sheet, numbers_from, true_link}
use Rattle.ring.specs.True.{TrueLoads}
use Rattle.reasons.specs.Findings.{First}
use Rattle.reasons.specs.declared.finding.Finding.{Finding}
use Rattle.reasons.proofs.Findings.{fine, none-of}
use Rattle.judge.specs.Findings.{links_findings, loads_findings}
use Rattle.judge.proofs.Rows.{same-number}

-- ---- as the code goes through them

-- what is given of the links from place t on is given of all
abbrev pub LinksLeft : (ℕ → Link) → List Link → ℕ → Type 0
LinksLeft due ls t = (r : Result Unit Finding) → First (links_findings due (t + 1) (drop t ls)) r → First (links_findings due 1 ls) r

-- ---- the links that are due need to be the same up to link n alone

links-same : (due due' : ℕ → Link) (n k : ℕ) (ls : List Link) → ((x : ℕ) → 1 ≤ x → x ≤ n → due x ≡ due' x) → 1 ≤ k → k + length ls ≤ n + 1 →
    (r : Result Unit Finding) → First (links_findings due k ls) r → First (links_findings due' k ls) r
links-same due due' n k [] same low high r h = h
links-same due due' n k (l ∷ ls) same low high r (inl h) = inl (λ e. h.0 (e ∙ sym (same k low (omega arith))), h.1)
links-same due due' n k (l ∷ ls) same low high r (inr h) =
    inr (λ n. h.0 (λ e. n (e ∙ same k low (omega arith))), links-same due due' n (k + 1) ls same (omega arith) (omega arith) r h.1)

pub loads-same : (due due' : ℕ → Link) (n : ℕ) (ls : List Link) → ((x : ℕ) → 1 ≤ x → x ≤ n → due x ≡ due' x) →
    (r : Result Unit Finding) → First (loads_findings n due ls) r → First (loads_findings n due' ls) r
loads-same due due' n ls same r (inl h) = inl h
loads-same due due' n ls same r (inr h) =
    let many : length ls ≡ n = same-number (length ls) n h.0 in
    inr (h.0, links-same due due' n 1 ls same (omega arith) (omega arith) r h.1)

-- ---- numbers that run on

pub length-numbers : (k m : ℕ) → length (numbers_from k m) ≡ m
unfolding numbers_from
length-numbers k zero = refl
length-numbers k (suc m) = ap suc (length-numbers (suc k) m)

-- ---- what it means that nothing is found

same-link : (l m : Link) → ((l ≡ m → ⊥) → ⊥) → l ≡ m
same-link l m n =
    let a : l.link ≡ m.link = same-number _ _ (λ d. n (λ e. d (ap (λ (l : Link). l.link) e))) in
    let b : l.split ≡ m.split = same-number _ _ (λ d. n (λ e. d (ap (λ (l : Link). l.split) e))) in
    let c : l.unsplit ≡ m.unsplit = same-number _ _ (λ d. n (λ e. d (ap (λ (l : Link). l.unsplit) e))) in
    λ i. record { link = a i; split = b i; unsplit = c i }

-- their numbers run on from k, and their loads are true
pub record LinksTrue (x : Sheet) (k : ℕ) (ls : List Link) : Type 0 where
  pub numbers : map (λ (l : Link). l.link) ls ≡ numbers_from k (length ls)
  pub loads : Each (TrueLoads x) ls

module _ (x : Sheet) where
  pub links-true : (k : ℕ) (ls : List Link) → First (links_findings (true_link x.rows) k ls) fine → LinksTrue x k ls
  unfolding numbers_from
  links-true k [] h = record { numbers = refl; loads = none }
  links-true k (l ∷ ls) h =
      let p = none-of h in
      let e = same-link l (true_link x.rows k) p.0 in
      let later = links-true (k + 1) ls p.1 in
      let n : l.link ≡ k = ap (λ (l : Link). l.link) e in
      let s : k + 1 ≡ suc k = omega arith in
      record {
        numbers = ap₂ {B = List ℕ} {C = List ℕ} (λ a m. a ∷ m) n (later.numbers ∙ ap (λ a. numbers_from a (length ls)) s);
        loads = more {a = l} (record { split = rw n (ap (λ (l : Link). l.split) e); unsplit = rw n (ap (λ (l : Link). l.unsplit) e) }) later.loads;
      }

  pub true-links : (k : ℕ) (ls : List Link) → LinksTrue x k ls → First (links_findings (true_link x.rows) k ls) fine
  unfolding numbers_from
  true-links k [] t = refl
  true-links k (l ∷ ls) t = go t.numbers t.loads (true-links (k + 1) ls)
    where
      go : l.link ∷ map (λ (l : Link). l.link) ls ≡ k ∷ numbers_from (suc k) (length ls) → Each (TrueLoads x) (l ∷ ls) →
          (LinksTrue x (k + 1) ls → First (links_findings (true_link x.rows) (k + 1) ls) fine) → First (links_findings (true_link x.rows) k (l ∷ ls)) fine
      go e (more t ts) later =
          let n : l.link ≡ k = cc in
          let m : map (λ (l : Link). l.link) ls ≡ numbers_from (suc k) (length ls) = cc in
          let s : suc k ≡ k + 1 = omega arith in
          let a = rw n at t.split in
          let b = rw n at t.unsplit in
          inr (λ d. d (λ i. record { link = n i; split = a i; unsplit = b i }), later (record { numbers = m ∙ ap (λ a. numbers_from a (length ls)) s; loads = ts }))
