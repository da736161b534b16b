-- The query of start_replication: it names the slot, the position to begin at and the publications, and asks for binary values where that is
-- set. SCOPE 5.2; 01, "Events and confirmations". ReadBack.antt has the server's reading of it.
use Rattle.std.specs.Prelude.{ℕ, Bool, List, [], ◌∷◌, ◌++◌}
use Rattle.std.specs.Borrow.{Bor}
use Rattle.wire.specs.Bytes.{pick}
use Rattle.config.specs.OptionValue.{option_value}
use Rattle.lsn.specs.Position.{display_of}
use Rattle.lsn.specs.declared.Lsn.{Lsn}

-- "START_REPLICATION SLOT "
abbrev pub slot_part : List ℕ
slot_part = 83 ∷ 84 ∷ 65 ∷ 82 ∷ 84 ∷ 95 ∷ 82 ∷ 69 ∷ 80 ∷ 76 ∷ 73 ∷ 67 ∷ 65 ∷ 84 ∷ 73 ∷ 79 ∷ 78 ∷ 32 ∷ 83 ∷ 76 ∷ 79 ∷ 84 ∷ 32 ∷ []

-- " LOGICAL "
abbrev pub position_part : List ℕ
position_part = 32 ∷ 76 ∷ 79 ∷ 71 ∷ 73 ∷ 67 ∷ 65 ∷ 76 ∷ 32 ∷ []

-- " (proto_version '1', publication_names '"
abbrev pub names_part : List ℕ
names_part =
    32 ∷ 40 ∷ 112 ∷ 114 ∷ 111 ∷ 116 ∷ 111 ∷ 95 ∷ 118 ∷ 101 ∷ 114 ∷ 115 ∷ 105 ∷ 111 ∷ 110 ∷ 32 ∷ 39 ∷ 49 ∷ 39 ∷ 44 ∷ 32 ∷ 112 ∷ 117 ∷ 98 ∷ 108 ∷ 105
    ∷ 99 ∷ 97 ∷ 116 ∷ 105 ∷ 111 ∷ 110 ∷ 95 ∷ 110 ∷ 97 ∷ 109 ∷ 101 ∷ 115 ∷ 32 ∷ 39 ∷ []

-- "', messages 'true'"
abbrev pub messages_part : List ℕ
messages_part = 39 ∷ 44 ∷ 32 ∷ 109 ∷ 101 ∷ 115 ∷ 115 ∷ 97 ∷ 103 ∷ 101 ∷ 115 ∷ 32 ∷ 39 ∷ 116 ∷ 114 ∷ 117 ∷ 101 ∷ 39 ∷ []

-- ", binary 'true'"
abbrev pub binary_part : List ℕ
binary_part = 44 ∷ 32 ∷ 98 ∷ 105 ∷ 110 ∷ 97 ∷ 114 ∷ 121 ∷ 32 ∷ 39 ∷ 116 ∷ 114 ∷ 117 ∷ 101 ∷ 39 ∷ []

-- ")"
abbrev pub last_part : List ℕ
last_part = 41 ∷ []

-- the slot, the position as Display shows it, the publications, and the binary part only where it is set
unfoldable pub start_replication : Bool → List ℕ → List (Bor (List ℕ)) → Lsn → List ℕ
start_replication binary slot publications position =
    slot_part ++ (slot
    ++ (position_part ++ (display_of position.0
    ++ (names_part ++ (option_value publications
    ++ (messages_part ++ (pick binary binary_part []
    ++ last_part)))))))

-- ---- as the code writes it

-- after the names, with the zero byte that ends a query
unfoldable pub end_text : Bool → List ℕ
end_text binary = messages_part ++ (pick binary binary_part [] ++ (last_part ++ (0 ∷ [])))

-- the query's payload, piece by piece
abbrev pub payload_text : Bool → List ℕ → List (Bor (List ℕ)) → Lsn → List ℕ
payload_text binary slot publications position =
    slot_part ++ (slot
    ++ (position_part ++ (display_of position.0
    ++ (names_part ++ (option_value publications
    ++ end_text binary)))))
