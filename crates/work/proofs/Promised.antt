-- Each call of the working table does what is promised of it, and a whole list of calls what the list of places does when they are played over it: from what a call is in both (`ByCalls`) and since
-- it does one thing (`Reasons`).
use Prim.Native.Nat.{ℕ, ◌-◌}
use mathlib.Core.List.{List, [], ◌∷◌}
use mathlib.Core.Path.{◌≡◌, refl, sym, ◌∙◌, ap}
use Rattle.std.specs.Prelude.{Result, Ok, Err, IfOk}
use Rattle.ring.specs.Cut.{across}
use Rattle.ring.specs.declared.types.Cut.{Cut}
use Rattle.ring.specs.declared.types.Ring.{Ring}
use Rattle.ring.specs.declared.types.Demand.{Demand}
use Rattle.reasons.specs.AndThen.{and_then}
use Rattle.reasons.specs.Findings.{Given, NoneHolds}
use Rattle.reasons.specs.declared.reason.Reason.{Reason}
use Rattle.work.specs.Places.{PlaceTable, rows_held, PlaceHolds, table_held}
use Rattle.work.specs.Calls.{Call, start, WorkAnswer, findings, Makes, starts, acceptance, Does, refused, accepted}
use Rattle.work.specs.Bytes.{demand_at}
use Rattle.work.specs.Changes.{placed_of, work_after, recut_in, index_in, row_in, started_in, called_in, Sized}
use Rattle.work.specs.True.{held, TrueTable}
use Rattle.work.specs.Promises.{WorkPromise, SameNumbers, OnlyThis, none_there, row_there, RowPromise}
use Rattle.work.specs.Made.{Made, begun, called}
use Rattle.work.specs.Played.{named_by, Played, at_first, then, AsPlayed, AnswerAfter}
use Rattle.work.specs.declared.Work.{Work}
use Rattle.work.specs.declared.answer.Placed.{Placed}
use Rattle.work.specs.declared.answer.Changed.{Changed}
use Rattle.work.proofs.Right.{cut-is}
use Rattle.work.proofs.Reasons.{one-given, none-given, one-made, does-one}
use Rattle.work.proofs.Views.{Indexed, none_there as is_none, row_there as is_row, indexed, held-at}
use Rattle.work.proofs.ByCalls.{Step, both_refuse, both_make, recut-sound, start-step, call_step, keeps-of, made-sound}

-- ---- one call

same-placed : {p q : Placed} → ◌≡◌ {A = WorkAnswer} (Ok p) (Ok q) → p ≡ q
same-placed e = cc

-- the answer of a call, and the struct behind it
record Left (w : Work) (c : Call) (a : WorkAnswer) (x : Work) : Type 0 where
  answer : a ≡ placed_of (called_in w c)
  table : x ≡ work_after w (called_in w c)

module _ (w : Work) (c : Call) (a : WorkAnswer) (x : Work) where
  -- a refusal changes no byte; of an accepted call the place and the table are what it makes
  data Case : Type 0 where
    is_refused : (reason : Reason) → Given (findings (table_held w) c) reason 0 → a ≡ Err reason → x ≡ w → Case
    is_accepted : {p : ℕ} → NoneHolds (findings (table_held w) c) → Makes (table_held w) c p (table_held x) → a ≡ acceptance p (table_held x) → Case

  case-of : Step w c → Left w c a x → Case
  unfolding placed_of work_after recut_in
  case-of (both_refuse reason e g) l = is_refused reason g (rw e at l.answer) (rw e at l.table)
  case-of (both_make p y s e n m) l =
      let answer : a ≡ acceptance p (table_held y) = (rw e at l.answer) ∙ (rw (cut-is y s)) in
      let table : x ≡ (recut_in y p).work = rw e at l.table in
      rw table (is_accepted n m answer)

  promise : Case → WorkPromise w c a x
  promise (is_refused k g ea ex) =
      record {
        cases = refused k g ea (ap table_held ex);
        refuses = λ reason. ((λ e. let q : k ≡ reason = cc in rw (← q) g), (λ h. let q = one-given (findings (table_held w) c) h g in rw q ea));
        unchanged = λ reason e. ex;
        accepts = λ p u. ((λ h. absurd (cc (ea, h.0))), (λ h. absurd (none-given (findings (table_held w) c) k g h.0)));
      }
  promise (is_accepted {p = q} n m ea) =
      record {
        cases = accepted n m ea;
        refuses = λ reason. ((λ e. absurd (cc)), (λ h. absurd (none-given (findings (table_held w) c) reason h n)));
        unchanged = λ reason e. absurd (cc);
        accepts = λ p u. (
          (λ h. let e : q ≡ p = ap (λ (x : Placed). x.place) (same-placed (sym ea ∙ h.0)) in rw (← e, ← h.1) (n, m)),
          (λ h. let e = one-made h.1 m in rw (e.0, e.1) (ea, refl)),
        );
      }

-- a call leaves a struct that keeps its numbers, where the one before it did or where it is accepted
module _ {w : Work} {c : Call} {a : WorkAnswer} {x : Work} where
  accepted-keeps : Step w c → Left w c a x → (p : Placed) → a ≡ Ok p → TrueTable x
  unfolding placed_of work_after
  accepted-keeps (both_refuse reason e g) l p is = let no : a ≡ Err reason = rw e at l.answer in absurd (cc)
  accepted-keeps (both_make p y s e n m) l _ is = rw (rw e at l.table) (keeps-of (recut-sound p y s))

  stays-keeping : Step w c → Left w c a x → TrueTable w → TrueTable x
  unfolding placed_of work_after
  stays-keeping (both_refuse reason e g) l k = rw (rw e at l.table) k
  stays-keeping (both_make p y s e n m) l k = rw (rw e at l.table) (keeps-of (recut-sound p y s))

-- ---- of the promise alone: no other answer and table keep it

module _ {w : Work} {c : Call} {a b : WorkAnswer} {x y : Work} (p : WorkPromise w c a x) (q : WorkPromise w c b y) where
  same-table : table_held y ≡ table_held x
  same-table = (does-one p.cases q.cases).1

  same-answer : b ≡ a
  same-answer = (does-one p.cases q.cases).0

  same-kept : ((placed : Placed) → a ≡ Ok placed → TrueTable x) → TrueTable y → SameNumbers y x
  same-kept k l = go a refl
    where
      go : (r : WorkAnswer) → a ≡ r → SameNumbers y x
      go (Err reason) e = rw (p.unchanged reason e, q.unchanged reason (same-answer ∙ e)) (record { cut = refl; numbers = λ g h a b c. refl })
      go (Ok placed) e =
          let kx = k placed e in
          let size : y.ring.nodes ≡ x.ring.nodes = ap (λ (t : PlaceTable). t.ring.nodes) same-table in
          let rows : held y ≡ held x = ap (λ (t : PlaceTable). rows_held t.places) same-table in
          record {
            cut = l.largest ∙ (rw (size, rows)) ∙ sym kx.largest;
            numbers = λ g h a b c. l.numbers g h a b (rw size c) ∙ ap (λ rs. across rs g h) rows ∙ sym (kx.numbers g h a b c);
          }

pub only-this : {w : Work} {c : Call} {a : WorkAnswer} {x : Work} → WorkPromise w c a x → ((placed : Placed) → a ≡ Ok placed → TrueTable x) → OnlyThis (WorkPromise w c) a x
only-this p k = record { answer = λ b y q. same-answer p q; table = λ b y q. same-table p q; kept = λ b y q l. same-kept p q k l }

-- ---- the row at a place

-- on every struct
pub row-promise : (w : Work) → Sized w → (p : ℕ) {a : Result Demand Reason} → a ≡ row_in w p → RowPromise w p a
unfolding row_in
row-promise w z p {a} is = go (index_in w.first p) (indexed w z p) is
  where
    go : (i : Result ℕ Reason) → Indexed w z p i → a ≡ and_then i (λ k. Ok (demand_at w k)) → RowPromise w p a
    go i (is_none n) e =
        record {
          cases = none_there n e;
          refuses = ((λ _. n), (λ _. e));
          says = λ r. ((λ f. absurd (cc)), (λ at. absurd (n (record { r = r; there = at }))));
        }
    go i (is_row l _ m) e =
        let there : PlaceHolds (table_held w).places p (demand_at w (p - 1)) = record { from_1 = l; is = held-at w z (p - 1) m } in
        record {
          cases = row_there _ there e;
          refuses = ((λ f. absurd (cc)), (λ n. absurd (n (record { r = _; there = there }))));
          says = λ r. (
            (λ f. let same : demand_at w (p - 1) ≡ r = cc in rw same at there),
            (λ at. let same : demand_at w (p - 1) ≡ r = cc (there.is, at.is) in rw (← same) e),
          );
        }

-- ---- a whole list of calls

-- they lead to one table and one cut
one-played : {cs : List Call} {t u : PlaceTable} {d e : Cut} → Played cs t d → Played cs u e → (u ≡ t) × (e ≡ d)
one-played at_first at_first = (refl, refl)
one-played (then {t = t} {d = d} {a = a} p k) (then {t = s} {d = e} {a = b} q l) =
    let before = one-played p q in
    let one = does-one k (rw before.0 at l) in
    (one.1, rw (one.0, before.1))

-- the cut that a struct keeps is the one named last
cut-named : {w : Work} {c : Call} {a : WorkAnswer} {x : Work} → WorkPromise w c a x → TrueTable x → x.cut ≡ named_by a w.cut
cut-named {w} {c} {a} {x} q k = go q.cases
  where
    go : Does (table_held w) c a (table_held x) → x.cut ≡ named_by a w.cut
    go (refused reason g e eu) = rw e (ap (λ (y : Work). y.cut) (q.unchanged reason e))
    go (accepted n m e) = rw e k.largest

-- a start that is accepted does the same on every table
start-does : {t s u : PlaceTable} {ring : Ring} {p : Placed} → Does t (start ring) (Ok p) u → Does s (start ring) (Ok p) u
unfolding findings
start-does (refused reason g e eu) = absurd (cc)
start-does (accepted n starts e) = accepted n starts e

behind : {cs : List Call} {w : Work} → Made cs w → Played cs (table_held w) w.cut
behind (begun q k) = rw (cut-named q k) (then at_first (start-does q.cases))
behind (called m q k) = rw (cut-named q k) (then (behind m) q.cases)

pub made-as-played : {cs : List Call} {w : Work} → Made cs w → AsPlayed cs w
made-as-played m = let b = behind m in record { leads = b; table = λ t d p. (one-played b p).0; cut = λ t d p. (one-played b p).1 }

answer-after : {cs : List Call} {t u : PlaceTable} {d : Cut} {c : Call} {a : WorkAnswer} → Played cs t d → Does t c a u → AnswerAfter cs c a
answer-after {t} {u} {d} p k =
    record {
      t = t;
      u = u;
      d = d;
      leads = p;
      does = k;
      only = λ s v e b q l. (does-one k (rw (one-played p q).0 at l)).0;
    }

-- and a start answers the same on every table
start-after : {t u : PlaceTable} {ring : Ring} {a : WorkAnswer} → Does t (start ring) a u → AnswerAfter [] (start ring) a
unfolding findings
start-after (refused reason g e eu) = answer-after at_first (refused reason g e refl)
start-after (accepted n starts e) = answer-after at_first (accepted n starts e)

-- ---- a start, on whatever bytes

module _ (any : Work) (ring : Ring) {done : Result Changed Reason} {a : WorkAnswer} {x : Work} (is : done ≡ started_in ring) (value : a ≡ placed_of done) (table : x ≡ work_after any done) where
  left : Left any (start ring) a x
  left = record { answer = rw is at value; table = rw is at table }

  pub started-promise : WorkPromise any (start ring) a x
  started-promise = promise any (start ring) a x (case-of any (start ring) a x (start-step any ring) left)

  pub started-only : OnlyThis (WorkPromise any (start ring)) a x
  started-only = only-this started-promise (accepted-keeps (start-step any ring) left)

  pub started-answer : AnswerAfter [] (start ring) a
  started-answer = start-after started-promise.cases

  if-accepted : {P : Type 0} → ((placed : Placed) → a ≡ Ok placed → P) → IfOk a (λ _. P)
  if-accepted {P} f = go a refl
    where
      go : (b : WorkAnswer) → a ≡ b → IfOk b (λ _. P)
      go (Ok placed) e = f placed e
      go (Err reason) e = tt

  keeps : (placed : Placed) → a ≡ Ok placed → TrueTable x
  keeps = accepted-keeps (start-step any ring) left

  made : (placed : Placed) → a ≡ Ok placed → Made (start ring ∷ []) x
  made placed e = begun (rw e at started-promise) (keeps placed e)

  pub started-keeps : IfOk a (λ _. TrueTable x)
  started-keeps = if-accepted keeps

  pub started-made : IfOk a (λ _. Made (start ring ∷ []) x)
  started-made = if-accepted made

  pub started-played : IfOk a (λ _. AsPlayed (start ring ∷ []) x)
  started-played = if-accepted (λ placed e. made-as-played (made placed e))

-- ---- a call on a table made by calls

module _ {cs : List Call} {w : Work} (m : Made cs w) (c : Call) {done : Result Changed Reason} {a : WorkAnswer} {x : Work} (is : done ≡ called_in w c) (value : a ≡ placed_of done) (table : x ≡ work_after w done) where
  leaves : Left w c a x
  leaves = record { answer = rw is at value; table = rw is at table }

  step : Step w c
  step = call_step w (made-sound m).right c

  pub called-promise : WorkPromise w c a x
  called-promise = promise w c a x (case-of w c a x step leaves)

  pub called-keeps : TrueTable x
  called-keeps = stays-keeping step leaves (keeps-of (made-sound m))

  pub called-made : Made (c ∷ cs) x
  called-made = called m called-promise called-keeps

  pub called-played : AsPlayed (c ∷ cs) x
  called-played = made-as-played called-made

  pub called-answer : AnswerAfter cs c a
  called-answer = answer-after (behind m) called-promise.cases

  pub called-only : OnlyThis (WorkPromise w c) a x
  called-only = only-this called-promise (λ _ _. called-keeps)
