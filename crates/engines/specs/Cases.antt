-- Examples: tables whose rows are sent from lowered rooms, with the rooms, which are the split loads; what is sent of each row; and the unsplit loads by rule D.
use Rattle.std.specs.Prelude.{ℕ, List, [], ◌∷◌, ◌≡◌}
use Rattle.ring.specs.Lists.{Each, listed}
use Rattle.ring.specs.declared.types.Demand.{Demand}
use Rattle.ring.specs.declared.types.Sent.{Sent}
use Rattle.ring.specs.Demand.{demand}
use Rattle.ring.specs.Routing.{sent, split_load, unsplit_load}
use Rattle.engines.specs.declared.Engine.TheVariants.{Lowered}
use Rattle.engines.specs.Lowering.{lowered_rooms}
use Rattle.engines.specs.Engine.{split_routing_by, unsplit_routing_by}

-- the demands of `sent` rows on a ring, and what comes of them, the loads from link 1 on
pub record Case : Type 0 where
  pub nodes : ℕ
  pub rows : List Demand
  pub rooms : List ℕ
  pub sent : List Sent
  pub unsplit : List ℕ

pub record Holds (c : Case) : Type 0 where
  pub rooms : listed (lowered_rooms c.nodes c.rows) 1 c.nodes ≡ c.rooms
  pub sent : split_routing_by Lowered c.nodes c.rows ≡ c.sent
  pub split : listed (split_load c.sent) 1 c.nodes ≡ c.rooms
  pub unsplit : listed (unsplit_load (unsplit_routing_by Lowered c.nodes c.rows)) 1 c.nodes ≡ c.unsplit

abbrev pub cases : List Case
cases =
    -- the ring of five of Lee and Chang: the same loads as by rules B and C, where only the cut's two links stay at M
    record {
      nodes = 5;
      rows = demand 1 2 2 ∷ demand 1 4 5 ∷ demand 2 3 9 ∷ demand 2 4 11 ∷ demand 3 4 4 ∷ demand 3 5 3 ∷ [];
      rooms = 16 ∷ 28 ∷ 24 ∷ 28 ∷ 22 ∷ [];
      sent = sent 1 2 2 4 0 ∷ sent 1 4 5 0 10 ∷ sent 2 3 9 18 0 ∷ sent 2 4 11 10 12 ∷ sent 3 4 4 8 0 ∷ sent 3 5 3 6 0 ∷ [];
      unsplit = 13 ∷ 9 ∷ 7 ∷ 19 ∷ 16 ∷ [];
    }
    -- the ring of eight of Schrijver, Seymour and Winkler: 5-8 is split and 6-7 is not, where rule B splits 6-7
    ∷ record {
      nodes = 8;
      rows = demand 1 4 1 ∷ demand 2 3 1 ∷ demand 5 8 2 ∷ demand 6 7 2 ∷ [];
      rooms = 4 ∷ 6 ∷ 4 ∷ 2 ∷ 2 ∷ 6 ∷ 2 ∷ 2 ∷ [];
      sent = sent 1 4 1 2 0 ∷ sent 2 3 1 2 0 ∷ sent 5 8 2 2 2 ∷ sent 6 7 2 4 0 ∷ [];
      unsplit = 1 ∷ 2 ∷ 1 ∷ 0 ∷ 2 ∷ 4 ∷ 2 ∷ 0 ∷ [];
    }
    -- M is 10 on links 2 and 3 alone; rule B loads all three with it
    ∷ record {
      nodes = 3;
      rows = demand 1 3 4 ∷ demand 2 3 3 ∷ demand 2 3 3 ∷ [];
      rooms = 2 ∷ 10 ∷ 10 ∷ [];
      sent = sent 1 3 4 0 8 ∷ sent 2 3 3 6 0 ∷ sent 2 3 3 4 2 ∷ [];
      unsplit = 0 ∷ 6 ∷ 4 ∷ [];
    }
    ∷ []

abbrev pub CasesHold : Type 0
CasesHold = Each Holds cases
