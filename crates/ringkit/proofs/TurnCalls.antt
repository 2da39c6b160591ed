-- Turning a table's rows: the ways are put into the lent bytes one by one; and what the call answers by what its text is read to keeps its promise.
use Rattle.std.proofs.Common.{suc, ◌≡◌, ℕ, ◌+◌, ◌≤◌, List, [], ◌∷◌, ◌++◌, take, drop, length, set, Some, slice_get, refl, sym, ap, subst, ◌∙◌, arith, Ok, Err, Result}
use Rattle.std.proofs.lemmas.List.{take_more, map-append, length-map}
use Rattle.std.proofs.lemmas.Option.{get_or_from_slice_get, slice_get_within, slice_get-get_or}
use lib.Seq.{take-append_seam}
use Rattle.ring.specs.Limits.{desk}
use Rattle.ring.specs.Routing.{way_number}
use Rattle.ring.specs.declared.types.Ring.{Ring}
use Rattle.ring.specs.declared.types.Demand.{Demand}
use Rattle.ring.specs.declared.types.Routed.{Routed}
use Rattle.ring.specs.Sheet.{sents, demands}
use Rattle.ring.proofs.Small.{demands-length}
use Rattle.table.specs.ReadTable.{Table, table_of}
use Rattle.table.specs.ReadInto.{with_rows}
use Rattle.table.specs.Says.{Given, Accepted}
use Rattle.reasons.specs.declared.reason.Reason.{Reason}
use Rattle.reasons.specs.declared.reason.Refusal.{Refusal}
use Rattle.table.proofs.Told.{read-table, read-refusal}
use Rattle.table.proofs.ReasonsGiven.{one-given, given, accepted-is}
use Rattle.rows.proofs.Places.{first-left, behind-first}
use Rattle.rows.proofs.Zip.{Passed, put-passed, put-taken}
use Rattle.turns.specs.declared.Turned.{Turned}
use Rattle.turns.specs.Turns.{least_start}
use Rattle.turns.proofs.StartSteps.{promised}
use Rattle.ringkit.specs.Says.{Only, Refused}
use Rattle.ringkit.specs.Texts.{TableOf}
use Rattle.ringkit.specs.Turning.{TurnAnswer, turned_table, ways_of, TurnedTo, TurnSays, are_turned, are_not, TurnPromise, TurnedWell}
use Rattle.ringkit.specs.TurnCalls.{TurnsTable}
use Rattle.ringkit.proofs.Calls.{same-err}
use Rattle.ringkit.proofs.TableCalls.{read_is, same-values}

-- ---- the bytes

-- where the loop stands: the ways of the first k rows are put
pub record Putting (rs : List Routed) (old now : List ℕ) (k : ℕ) : Type 0 where
  pub passed : Passed old now k
  pub so_far : take k now ≡ ways_of (take k rs)

module _ (rs : List Routed) (old : List ℕ) where
  pub put_turn : (now : List ℕ) (k : ℕ) (r : Routed) (z : ℕ) → length rs ≤ desk.rows → length old ≡ desk.rows → slice_get rs k ≡ Some r → z ≡ way_number r.way → Putting rs old now k → Putting rs old (set now k z) (k + 1)
  put_turn now k r z few size at e o =
      let l = slice_get_within rs k r at in
      let here = slice_get-get_or now k 0 (omega (arith, o.passed.size)) in
      record {
        passed = put-passed old now k _ here o.passed z;
        so_far =
            rw (take_more rs k r l, get_or_from_slice_get rs k r r at)
            (put-taken old now k _ here o.passed z ∙ (rw (o.so_far, e) (sym (map-append (λ (r : Routed). way_number r.way) (take k rs) (r ∷ [])))));
      }

-- the rows `left` are to come
pub record Passing (rs : List Routed) (old now : List ℕ) (left : List Routed) (k : ℕ) : Type 0 where
  pub behind : left ≡ drop k rs
  pub within : k ≤ length rs
  pub putting : Putting rs old now k

module _ (rs : List Routed) (old now : List ℕ) (left : List Routed) (k : ℕ) where
  pub put_turned : length rs ≤ desk.rows → length old ≡ desk.rows → Passing rs old now left k → (r : Routed) (rest : List Routed) → left ≡ r ∷ rest → (place z next : ℕ) → place ≡ k → z ≡ way_number r.way → next ≡ k + 1 →
      Passing rs old (set now place z) rest next
  put_turned few size o r rest e place z next p w m =
      rw (p, m)
      record {
        behind = let s : k + 1 ≡ suc k = omega arith in rw s (behind-first rs k r rest (sym o.behind ∙ e));
        within = omega (arith, slice_get_within rs k r (first-left rs k r rest (sym o.behind ∙ e)));
        putting = put_turn rs old now k r z few size (first-left rs k r rest (sym o.behind ∙ e)) w o.putting;
      }

-- ---- the answer

-- as many rows as before
pub turned_few : (rs : List Demand) (rows : List Routed) → demands (sents rows) ≡ rs → length rs ≤ desk.rows → length rows ≤ desk.rows
turned_few rs rows e l = omega (arith, demands-length rows, ap length e)

module _ (t : List ℕ) where
  -- what comes of reading
  turns-read : (x : Result Table Refusal) (old new : List ℕ) (r : TurnAnswer) → table_of desk t ≡ x → TurnsTable x old new r → TurnsTable (table_of desk t) old new r
  turns-read x old new r e f = rw e f

  module _ (rs : List Demand) (answer : Result Ring Refusal) (e : with_rows rs answer ≡ table_of desk t) where
    pub turn_refused : (old : List ℕ) (x : Refusal) → answer ≡ Err x → TurnsTable (table_of desk t) old old (Err x)
    turn_refused old x a = turns-read (Err x) old old (Err x) (read-refusal t rs answer e x a) (record { answer = refl; buffer = refl })

    pub turn_fills : (ring : Ring) → answer ≡ Ok ring → (rows : List Routed) (x : Turned) (count : ℕ) (old new : List ℕ) → demands (sents rows) ≡ rs → rows ≡ (least_start ring.nodes rs).rows → x ≡ (least_start ring.nodes rs).figures →
        count ≡ length rows → new ≡ ways_of rows ++ drop (length rows) old → TurnsTable (table_of desk t) old new (turned_table x count)
    turn_fills ring a rows x count old new same is figures c w =
        let many : length rows ≡ length rs = sym (demands-length rows) ∙ ap length same in
        turns-read (Ok (ring, rs)) old new (turned_table x count) (read-table t rs answer e ring a)
        (record { answer = rw (figures, c, many); ways = w ∙ (rw (many, is)) })

  -- ---- the promise

  module _ (old new : List ℕ) (r : TurnAnswer) where
    says : (x : Result Table Refusal) → table_of desk t ≡ x → TurnsTable x old new r → TurnSays t old new r
    says (Ok x) e f = are_turned ((read_is t x.0 x.1).0 e) f
    says (Err x) e f = are_not ((given desk t x).0 e) f

    -- an accepted table is not refused
    apart : {ring : Ring} {rs : List Demand} {reason : Reason} {line byte : ℕ} → TableOf t ring rs → Given desk t reason line byte → ⊥
    apart {ring} {rs} {reason} {line} of g = (accepted-is desk t).0 (record { ring = ring; rs = rs; is = (read_is t ring rs).1 of }) reason line g.holds

    pub turn_promise : TurnsTable (table_of desk t) old new r → TurnPromise t old new r
    turn_promise f =
        let s = says (table_of desk t) refl f in
        record { cases = s; turns = λ ring rs of. is-turned of s; refuses = λ reason line byte. (refused-so s, is-refused s) }
      where
        is-turned : {ring : Ring} {rs : List Demand} → TableOf t ring rs → TurnSays t old new r → TurnedTo ring rs old new r
        is-turned of (are_turned other f) = let e = same-values of other in rw (e.0, e.1) f
        is-turned of (are_not g f) = absurd (apart of g)

        refused-so : {reason : Reason} {line byte : ℕ} → TurnSays t old new r → Refused reason line byte old new r → Given desk t reason line byte
        refused-so (are_turned of f) n = absurd (let w = sym f.answer ∙ n.answer in let z : ◌≡◌ {A = ℕ} 0 1 = cc in omega arith)
        refused-so (are_not g f) n = subst (λ (x : Refusal). Given desk t x.reason x.line x.byte) (same-err (sym f.answer ∙ n.answer)) g

        is-refused : {reason : Reason} {line byte : ℕ} → TurnSays t old new r → Given desk t reason line byte → Refused reason line byte old new r
        is-refused (are_turned of f) g = absurd (apart of g)
        is-refused (are_not h f) g = let e = one-given g h in rw (e.0, e.1, e.2) f

    -- no other bytes and no other answer keep it
    pub turn_only : TurnsTable (table_of desk t) old new r → Only (TurnPromise t old) new r
    turn_only f = record { buffer = λ other q p. (go p (turn_promise f).cases).0; answer = λ other q p. (go p (turn_promise f).cases).1 }
      where
        go : {other : List ℕ} {q : TurnAnswer} → TurnPromise t old other q → TurnSays t old new r → (other ≡ new) × (q ≡ r)
        go p (are_turned {ring} {rs} of f) = let o = p.turns ring rs of in (o.ways ∙ sym f.ways, o.answer ∙ sym f.answer)
        go p (are_not {reason} {line} {byte} g f) = let o = (p.refuses reason line byte).1 g in (o.buffer ∙ sym f.buffer, o.answer ∙ sym f.answer)

    -- of an accepted table
    pub turned_well : TurnsTable (table_of desk t) old new r → Accepted desk t → TurnedWell t new r
    turned_well f a =
        let d = (accepted-is desk t).1 a in
        let of = (read_is t d.ring d.rs).0 d.is in
        let to = (turn_promise f).turns d.ring d.rs of in
        let p = promised d.ring.nodes d.rs of.range.within.few in
        let bytes = ways_of (least_start d.ring.nodes d.rs).rows in
        let many : length bytes ≡ length d.rs = length-map (least_start d.ring.nodes d.rs).rows (λ (r : Routed). way_number r.way) ∙ (sym (demands-length (least_start d.ring.nodes d.rs).rows) ∙ ap length p.demands) in
        record {
          ring = d.ring;
          rs = d.rs;
          of = of;
          x = (least_start d.ring.nodes d.rs).figures;
          is = to.answer;
          ways = (least_start d.ring.nodes d.rs).rows;
          bytes = ap (take (length d.rs)) to.ways ∙ (ap (λ k. take k (bytes ++ drop (length d.rs) old)) (sym many) ∙ take-append_seam bytes (drop (length d.rs) old));
          demands = p.demands;
          peak = p.peak;
          still = p.still;
          start = p.start;
          least = p.least;
          turns = p.turns;
          ends = p.ends;
          loads = p.loads;
          starts = p.starts;
          most = p.most;
          floor = p.floor;
        }
