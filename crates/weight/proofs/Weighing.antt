-- Row by row the links carry the rows passed, and with those that are left all; and D is found row by row.
use Prim.Native.Nat.{ℕ, zero, suc, ◌+◌, ◌*◌, ◌-◌, ◌≤◌, ◌<◌, max}
use mathlib.Core.Bool.{Bool, true, false, cond}
use mathlib.Core.Path.{◌≡◌, refl, sym, ◌∙◌, ap}
use mathlib.Core.List.{List, [], ◌∷◌, ◌++◌, map}
use native.Mathlib.Omega.{arith}
use native.Mathlib.Decide.{dec_lt}
use Rattle.std.proofs.lemmas.List.{get_or-set_same, length-set, same_lists}
use Rattle.std.proofs.Common.{get_or-set_other}
use Rattle.std.proofs.lemmas.List.{get_or-take, get_or-drop, get_or-append_right}
use lib.Seq.{take-append_seam}
use lib.ListN.{get_or, get_or-append, length, length-take, length-drop, length-append, take, replicate, length-replicate, get_or-replicate}
use Rattle.std.proofs.Common.{drop, set, ◌≢◌, subst, true≢false}
use Rattle.ring.specs.Lists.{Each}
use Rattle.ring.specs.Demand.{in_front}
use Rattle.ring.specs.Routing.{by_way, is_split, sent_over, split_load, whole_over, unsplit_load, peak}
use Rattle.ring.specs.declared.types.Routed.{Routed}
use Rattle.ring.specs.declared.types.Link.{Link}
use Rattle.ring.specs.RuleD.{largest_split}
use Rattle.ring.specs.Sheet.{sents, numbers_from, true_link}
use Rattle.ring.proofs.Lists.{each, each-at, rest-of}
use Rattle.ring.proofs.Totals.{Total, total-most, unsplit-total, sent-small, whole-small}
use Rattle.ring.proofs.Sending.{over-front, over-back}
use Rattle.ring.proofs.Peaks.{peak-least}
use Rattle.weight.specs.LinkSteps.{loaded, OverStep, OverFits}
use Rattle.ring.specs.Limits.{desk}
use Rattle.weight.specs.Limits.{load_bound, halves_bound}
use Rattle.weight.specs.Rows.{RowFits, Fit}
use Rattle.weight.specs.Weighed.{no_link, links_in, weight_in, weighed_link}
use Rattle.weight.specs.declared.Weight.{Weight}

-- ---- one of two that are chosen by a test

chosen : (b : Bool) (x y : ℕ) → b ≡ true → cond b x y ≡ x
chosen true x y e = refl
chosen false x y e = absurd (true≢false (sym e))

other : (b : Bool) (x y : ℕ) → b ≡ false → cond b x y ≡ y
other false x y e = refl
other true x y e = absurd (true≢false e)

-- ---- D: the largest so far, with that of the rows left, is that of all

pub top_split : (left rest : List Routed) (r : Routed) (largest all : ℕ) → left ≡ r ∷ rest → is_split r.sent ≡ true → max largest (largest_split (sents left)) ≡ all →
    max (max largest r.sent.demand.amount) (largest_split (sents rest)) ≡ all
unfolding largest_split
top_split left rest r largest all l e m =
    let D = largest_split (sents rest) in
    omega (arith, chosen (is_split r.sent) (max r.sent.demand.amount D) D e, (rw l at m))

pub top_whole : (left rest : List Routed) (r : Routed) (largest all : ℕ) → left ≡ r ∷ rest → is_split r.sent ≡ false → max largest (largest_split (sents left)) ≡ all →
    max largest (largest_split (sents rest)) ≡ all
unfolding largest_split
top_whole left rest r largest all l e m =
    let D = largest_split (sents rest) in
    omega (arith, other (is_split r.sent) (max r.sent.demand.amount D) D e, (rw l at m))

pub top_last : (left : List Routed) (largest all : ℕ) → left ≡ [] → max largest (largest_split (sents left)) ≡ all → largest ≡ all
unfolding largest_split
top_last left largest all l m = omega (arith, (rw l at m))

-- ---- links 1 to n by their numbers

-- where the loop over links stands: those passed are numbered, and none carries anything
pub record Numbering (n : ℕ) (links : List Link) (k : ℕ) : Type 0 where
  pub size : length links ≡ n
  pub passed : (x : ℕ) (d : Link) → x < k → get_or links x d ≡ true_link [] (x + 1)
  pub left : (x : ℕ) (d : Link) → k ≤ x → x < n → get_or links x d ≡ no_link

-- where the loop over rows stands: with the rows that are left the links carry all
pub record Weighing (n : ℕ) (rs left : List Routed) (links : List Link) : Type 0 where
  pub each : Each (RowFits n) left
  pub size : length links ≡ desk.nodes
  pub loads : (x : ℕ) (d : Link) → x < n → loaded (get_or links x d) (split_load (sents left) (x + 1)) (unsplit_load left (x + 1)) ≡ true_link rs (x + 1)
  pub behind : (x : ℕ) (d : Link) → n ≤ x → x < desk.nodes → get_or links x d ≡ no_link

whole-front : (r : Routed) (k : ℕ) → in_front r.sent.demand k ≡ true → whole_over r k ≡ by_way r.way r.sent.demand.amount 0
unfolding whole_over
whole-front r k e = chosen (in_front r.sent.demand k) _ _ e

whole-back : (r : Routed) (k : ℕ) → in_front r.sent.demand k ≡ false → whole_over r k ≡ by_way r.way 0 r.sent.demand.amount
unfolding whole_over
whole-back r k e = other (in_front r.sent.demand k) _ _ e

-- ---- links as they are listed

numbers-length : {A : Type 0} (f : ℕ → A) (k m : ℕ) → length (map f (numbers_from k m)) ≡ m
unfolding numbers_from
numbers-length f k zero = refl
numbers-length f k (suc m) = ap suc (numbers-length f (suc k) m)

numbers-at : {A : Type 0} (f : ℕ → A) (k m x : ℕ) (d : A) → x < m → get_or (map f (numbers_from k m)) x d ≡ f (x + k)
unfolding numbers_from
numbers-at f k zero x d l = absurd (omega arith)
numbers-at f k (suc m) zero d l = let e : 0 + k ≡ k = omega arith in rw e
numbers-at f k (suc m) (suc x) d l = let e : suc x + k ≡ x + suc k = omega arith in rw e (numbers-at f (suc k) m x d (omega arith))

-- the links of rows, place by place
in-length : (n : ℕ) (rs : List Routed) → n ≤ desk.nodes → length (links_in n rs) ≡ desk.nodes
in-length n rs few =
    let behind = replicate {A = Link} (desk.nodes - n) no_link in
    omega (arith, few, length-append (map (true_link rs) (numbers_from 1 n)) behind, numbers-length (true_link rs) 1 n, length-replicate {A = Link} (desk.nodes - n) no_link)

in-at : (n : ℕ) (rs : List Routed) (x : ℕ) (d : Link) → x < n → get_or (links_in n rs) x d ≡ true_link rs (x + 1)
in-at n rs x d l = get_or-append (map (true_link rs) (numbers_from 1 n)) _ d x (omega (arith, numbers-length (true_link rs) 1 n)) ∙ numbers-at (true_link rs) 1 n x d l

in-behind : (n : ℕ) (rs : List Routed) (x : ℕ) (d : Link) → n ≤ x → x < desk.nodes → get_or (links_in n rs) x d ≡ no_link
in-behind n rs x d l m =
    let behind = replicate {A = Link} (desk.nodes - n) no_link in
    get_or-append_right (map (true_link rs) (numbers_from 1 n)) behind n x d (numbers-length (true_link rs) 1 n) l ∙ get_or-replicate {A = Link} (desk.nodes - n) (x - n) no_link d (omega arith)

pub link_is : (n : ℕ) (rs : List Routed) (k : ℕ) → 1 ≤ k → k ≤ n → weighed_link (weight_in n rs) k ≡ true_link rs k
unfolding weight_in
link_is n rs k low high = let e : (k - 1) + 1 ≡ k = omega arith in rw e at (in-at n rs (k - 1) no_link (omega arith))

pub links_true : (n : ℕ) (rs : List Routed) → take n (links_in n rs) ≡ map (true_link rs) (numbers_from 1 n)
links_true n rs =
    let links = map (true_link rs) (numbers_from 1 n) in
    let behind = replicate {A = Link} (desk.nodes - n) no_link in
    subst (λ k. take k (links ++ behind) ≡ links) (numbers-length (true_link rs) 1 n) (take-append_seam links behind)

-- ---- no load is more than all rows' amounts or halves

-- of rows with amounts within the limit
abbrev pub SmallAmounts : List Routed → Type 0
SmallAmounts = Each (λ (r : Routed). r.sent.demand.amount ≤ desk.amount)

pub small-amounts : {n : ℕ} {rs : List Routed} → Fit n rs → SmallAmounts rs
small-amounts fit = each (λ r f. f.amount) fit.each

load-small : (rs : List Routed) → SmallAmounts rs → (k : ℕ) → unsplit_load rs k ≤ desk.amount * length rs
load-small rs small k =
    total-most {sum = λ rs. unsplit_load rs k} (unsplit-total k) desk.amount
    (each (λ r f. omega (arith, whole-small r k, f)) small)

split-sum : (k : ℕ) → Total (λ (r : Routed). sent_over r.sent k) (λ (rs : List Routed). split_load (sents rs) k)
unfolding split_load
split-sum k = record { none = refl; more = λ r rs. refl }

split-small : (n : ℕ) (rs : List Routed) → Fit n rs → (k : ℕ) → split_load (sents rs) k ≤ halves_bound * length rs
split-small n rs fit k = total-most {sum = λ rs. split_load (sents rs) k} (split-sum k) halves_bound (each (λ r f. omega (arith, sent-small r.sent k, f.halves)) fit.each)

module _ (n : ℕ) (rs : List Routed) (fit : Fit n rs) where
  module _ (old : List Link) (none : old ≡ replicate {A = Link} desk.nodes no_link) where
    old-at : (x : ℕ) (d : Link) → x < desk.nodes → get_or old x d ≡ no_link
    old-at x d l = rw none (get_or-replicate {A = Link} desk.nodes x no_link d l)

    old-size : length old ≡ desk.nodes
    old-size = rw none (length-replicate {A = Link} desk.nodes no_link)

    pub number_start : Numbering n (take n old) 0
    number_start =
        record {
          size = omega (arith, length-take n old, old-size, fit.links);
          passed = λ x d l. absurd (omega arith);
          left = λ x d l m. get_or-take n old x d m ∙ old-at x d (omega (arith, fit.links));
        }

    pub weigh_start : (part : List Link) (k : ℕ) → Numbering n part k → n ≤ k → (new : List Link) → new ≡ part ++ drop n old → (left : List Routed) → left ≡ rs → Weighing n rs left new
    unfolding split_load unsplit_load
    weigh_start part k done passed new e left all =
        rw (e, all) record {
          each = fit.each;
          size = omega (arith, length-append part (drop n old), length-drop n old, done.size, old-size, fit.links);
          loads =
              λ x d l.
              let p : 0 + split_load (sents rs) (x + 1) ≡ split_load (sents rs) (x + 1) = omega arith in
              let q : 0 + unsplit_load rs (x + 1) ≡ unsplit_load rs (x + 1) = omega arith in
              rw (get_or-append part (drop n old) d x (omega (arith, done.size)), done.passed x d (omega arith)) (λ i. record { link = x + 1; split = p i; unsplit = q i });
          behind =
              λ x d l m.
              let e : n + (x - n) ≡ x = omega arith in
              get_or-append_right part (drop n old) n x d done.size l ∙ get_or-drop n old (x - n) d ∙ ap (λ y. get_or old y d) e ∙ old-at x d m;
        }

  pub number_turn : (links : List Link) (k : ℕ) → Numbering n links k → k < n → (d : Link) →
      Numbering n (set links k (record { link = k + 1; split = (get_or links k d).split; unsplit = (get_or links k d).unsplit })) (k + 1)
  unfolding split_load unsplit_load
  number_turn links k s l empty =
      let e = s.left k empty (omega arith) l in
      rw e record {
        size = length-set links k _ ∙ s.size;
        passed =
            λ x d m.
            elim (dec_lt x k) [
              | yes b ↦ (let ne : x ≢ k = omega arith in get_or-set_other links k x _ d ne ∙ s.passed x d b)
              | no b ↦ (let e : x ≡ k = omega arith in rw e (get_or-set_same links k _ d (omega (arith, s.size))))
            ];
        left = λ x d m h. let ne : x ≢ k = omega arith in get_or-set_other links k x _ d ne ∙ s.left x d (omega arith) h;
      }

  -- one row more of those that are left
  module _ (links : List Link) (left rest : List Routed) (r : Routed) (next : left ≡ r ∷ rest) (before : Weighing n rs left links)
      (front back : ℕ) (ahead : front ≡ by_way r.way r.sent.demand.amount 0) (behind : back ≡ by_way r.way 0 r.sent.demand.amount) where
    w : Weighing n rs (r ∷ rest) links
    w = rw next at before

    here : RowFits n r
    here = each-at w.each 0 r (omega arith)

    long : length (take n links) ≡ n
    long = omega (arith, length-take n links, w.size, fit.links)

    part-is : (x : ℕ) (d : Link) → x < n → get_or (take n links) x d ≡ get_or links x d
    part-is x d l = get_or-take n links x d l

    -- a link with so much of this row and with the rows behind it
    module _ (x : ℕ) (d : Link) (l : x < n) (a b : ℕ) (ea : sent_over r.sent (x + 1) ≡ a) (eb : whole_over r (x + 1) ≡ b) where
      with_row : loaded (loaded (get_or links x d) a b) (split_load (sents rest) (x + 1)) (unsplit_load rest (x + 1)) ≡ true_link rs (x + 1)
      unfolding split_load unsplit_load
      with_row =
          let k = get_or links x d in
          let p : (k.split + a) + split_load (sents rest) (x + 1) ≡ k.split + (sent_over r.sent (x + 1) + split_load (sents rest) (x + 1)) = omega arith in
          let q : (k.unsplit + b) + unsplit_load rest (x + 1) ≡ k.unsplit + (whole_over r (x + 1) + unsplit_load rest (x + 1)) = omega arith in
          (λ i. record { link = k.link; split = p i; unsplit = q i }) ∙ w.loads x d l

      split-fits : (get_or links x d).split + a ≤ load_bound
      split-fits = omega (arith, ap (λ (k : Link). k.split) with_row, split-small n rs fit (x + 1), fit.few)

      unsplit-fits : (get_or links x d).unsplit + b ≤ load_bound
      unsplit-fits = omega (arith, ap (λ (k : Link). k.unsplit) with_row, load-small rs (small-amounts fit) (x + 1), fit.few)

    pub weigh_fits : {ahead_can behind_can : Link → Type 0} → ((x : Link) → x.split + r.sent.front ≤ load_bound → x.unsplit + front ≤ load_bound → ahead_can x) →
        ((x : Link) → x.split + r.sent.back ≤ load_bound → x.unsplit + back ≤ load_bound → behind_can x) → OverFits ahead_can behind_can r.sent.demand (take n links)
    weigh_fits p q =
        record {
          on = rw long here.on;
          ahead = λ x d l f. can p x d l (over-front r.sent (x + 1) f) (whole-front r (x + 1) f ∙ sym ahead);
          behind = λ x d l f. can q x d l (over-back r.sent (x + 1) f) (whole-back r (x + 1) f ∙ sym behind);
        }
      where
        can : {P : Link → Type 0} {a b : ℕ} → ((x : Link) → x.split + a ≤ load_bound → x.unsplit + b ≤ load_bound → P x) → (x : ℕ) (d : Link) → x < length (take n links) →
            sent_over r.sent (x + 1) ≡ a → whole_over r (x + 1) ≡ b → P (get_or (take n links) x d)
        can {P} {a} {b} h x d l ea eb =
            let m : x < n = omega (arith, long) in
            subst P (sym (part-is x d m)) (h (get_or links x d) (split-fits x d m a b ea eb) (unsplit-fits x d m a b ea eb))

    pub weigh_more : {ahead_step behind_step : Link → Link → Type 0} → ((x y : Link) → ahead_step x y → y ≡ loaded x r.sent.front front) → ((x y : Link) → behind_step x y → y ≡ loaded x r.sent.back back) →
        (part : List Link) → OverStep ahead_step behind_step r.sent.demand (take n links) part → (new : List Link) → new ≡ part ++ drop n links →
        Weighing n rs rest new
    weigh_more p q part o new is-new =
        rw is-new record {
          each = rest-of w.each;
          size = omega (arith, length-append part (drop n links), length-drop n links, o.size, long, w.size);
          loads =
              λ x d l.
              rw (get_or-append part (drop n links) d x (omega (arith, o.size, long))) (go x d l (in_front r.sent.demand (x + 1)) refl);
          behind =
              λ x d l m.
              let e : n + (x - n) ≡ x = omega arith in
              get_or-append_right part (drop n links) n x d (omega (arith, o.size, long)) l ∙ get_or-drop n links (x - n) d ∙ ap (λ y. get_or links y d) e ∙ w.behind x d l m;
        }
      where
        go : (x : ℕ) (d : Link) → x < n → (b : Bool) → in_front r.sent.demand (x + 1) ≡ b →
            loaded (get_or part x d) (split_load (sents rest) (x + 1)) (unsplit_load rest (x + 1)) ≡ true_link rs (x + 1)
        go x d l true f =
            rw (p _ _ (o.ahead x d (omega (arith, long)) f) ∙ ap (λ y. loaded y r.sent.front front) (part-is x d l))
            (with_row x d l r.sent.front front (over-front r.sent (x + 1) f) (whole-front r (x + 1) f ∙ sym ahead))
        go x d l false f =
            rw (q _ _ (o.behind x d (omega (arith, long)) f) ∙ ap (λ y. loaded y r.sent.back back) (part-is x d l))
            (with_row x d l r.sent.back back (over-back r.sent (x + 1) f) (whole-back r (x + 1) f ∙ sym behind))

  module _ (links : List Link) (left : List Routed) (e : left ≡ []) (before : Weighing n rs left links) where
    end : Weighing n rs [] links
    end = rw e at before

    pub links-done : links ≡ links_in n rs
    unfolding split_load unsplit_load
    links-done =
        same_lists links (links_in n rs) (end.size ∙ sym (in-length n rs fit.links))
        (λ x d l.
        elim (dec_lt x n) [
          | yes m ↦
              let k = get_or links x d in
              let p : k.split ≡ k.split + 0 = omega arith in
              let q : k.unsplit ≡ k.unsplit + 0 = omega arith in
              (λ i. record { link = k.link; split = p i; unsplit = q i }) ∙ end.loads x d (omega arith) ∙ sym (in-at n rs x d m)
          | no m ↦ end.behind x d (omega arith) (omega (arith, end.size)) ∙ sym (in-behind n rs x d (omega arith) (omega (arith, end.size)))
        ])

  -- the peaks of the links passed
  module _ (links : List Link) (are : links ≡ links_in n rs) (k split top : ℕ) (split_is : split ≡ peak (split_load (sents rs)) k) (top_is : top ≡ peak (unsplit_load rs) k) where
    passing : length (take n links) ≡ n
    passing = omega (arith, length-take n links, ap length are, in-length n rs fit.links, fit.links)

    pub peaks_turn : k < length (take n links) → (d : Link) →
        (max split (get_or (take n links) k d).split ≡ peak (split_load (sents rs)) (k + 1)) × (max top (get_or (take n links) k d).unsplit ≡ peak (unsplit_load rs) (k + 1))
    unfolding peak
    peaks_turn l d =
        let after : k + 1 ≡ suc k = omega arith in
        let here : get_or (take n links) k d ≡ true_link rs (k + 1) = get_or-take n links k d (omega (arith, passing)) ∙ (rw are (in-at n rs k d (omega (arith, passing)))) in
        (rw (here, split_is, after) refl, rw (here, top_is, after) refl)

    pub peaks_done : k ≤ length (take n links) → length (take n links) ≤ k →
        record { links = links; split_peak = split; unsplit_peak = top } ≡ weight_in n rs
    unfolding weight_in
    peaks_done l m =
        let e : k ≡ n = omega (arith, passing) in
        λ i.
        record {
          links = are i;
          split_peak = (split_is ∙ ap (peak (split_load (sents rs))) e) i;
          unsplit_peak = (top_is ∙ ap (peak (unsplit_load rs)) e) i;
        }

-- ---- what a line must carry for the peak fits, whatever the halves are

pub peak-fits : (n : ℕ) (rs : List Routed) → length rs ≤ desk.rows → SmallAmounts rs
    → (weight : Weight) → weight ≡ weight_in n rs → 2 * weight.unsplit_peak < 4294967296
unfolding weight_in
peak-fits n rs few small weight e =
    let most = desk.amount * length rs in
    let least = peak-least (unsplit_load rs) n most (λ k a b. load-small rs small k) in
    omega (arith, ap (λ (w : Weight). w.unsplit_peak) e, least, few)
