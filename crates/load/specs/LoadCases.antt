-- Messages of drawn numbers in plain bytes, and what a call refuses: document 02, wish 13.
use Rattle.std.specs.Prelude.{◌≡◌, true, [], ◌∷◌, ◌++◌, ℕ, replicate}
use Rattle.load.specs.declared.Message.TheVariants.{KeepAlive, Begin, Data, Commit}
use Rattle.load.specs.Load.{by_kind, bytes_of, stream_of, loading}

-- which of the four kinds a number chooses
abbrev kind : ℕ → ℕ
kind n = by_kind n 0 1 2 3

pub record LoadCases : Type 0 where
  -- by the first draw modulo 4: keepalive, Begin, other data, Commit
  pub kinds : (kind 8 ≡ 0) × (kind 5 ≡ 1) × (kind 6 ≡ 2) × (kind 7 ≡ 3)
  -- a keepalive with end 0x10 that asks for a reply
  pub keepalive : bytes_of (KeepAlive 0x10 true)
      ≡ 100 ∷ 0 ∷ 0 ∷ 0 ∷ 22 ∷ 107 ∷ (replicate 7 0 ++ (0x10 ∷ (replicate 8 0 ++ (1 ∷ []))))
  -- a Begin: start 1, end 2, final position 3, xid 4
  pub begin : bytes_of (Begin 1 2 3 4)
      ≡ 100 ∷ 0 ∷ 0 ∷ 0 ∷ 50 ∷ 119
      ∷ (replicate 7 0 ++ (1 ∷ (replicate 7 0 ++ (2 ∷ (replicate 8 0 ++ (66 ∷ (replicate 7 0 ++ (3 ∷ (replicate 8 0 ++ (0 ∷ 0 ∷ 0 ∷ 4 ∷ []))))))))))
  -- other data: an `I` and two letters
  pub other : bytes_of (Data 1 2 2)
      ≡ 100 ∷ 0 ∷ 0 ∷ 0 ∷ 32 ∷ 119 ∷ (replicate 7 0 ++ (1 ∷ (replicate 7 0 ++ (2 ∷ (replicate 8 0 ++ (73 ∷ 65 ∷ 65 ∷ []))))))
  -- a Commit: position 3, end 4
  pub commit : bytes_of (Commit 1 2 3 4)
      ≡ 100 ∷ 0 ∷ 0 ∷ 0 ∷ 55 ∷ 119
      ∷ (replicate 7 0 ++ (1 ∷ (replicate 7 0 ++ (2 ∷ (replicate 8 0 ++ (67 ∷ 0 ∷ (replicate 7 0 ++ (3 ∷ (replicate 7 0 ++ (4 ∷ replicate 8 0))))))))))
  -- no messages are no bytes
  pub none : stream_of 0 7 ≡ []
  -- 35 comes first, also for no messages; 4 where a message has no room; none of the two writes
  pub seed_zero : loading 0 0 (9 ∷ []) ≡ ((35, 0), 9 ∷ [])
  pub nothing_to_write : loading 7 0 (9 ∷ []) ≡ ((0, 0), 9 ∷ [])
