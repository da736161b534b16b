-- Windows of four neighbouring bytes: whether a byte may follow the three before it, by the rows of Table 3-7. SCOPE 2.6.
use Rattle.std.specs.Prelude.{List, ℕ, zero, suc, ◌+◌, get_or, ltb, eqb}
use Rattle.wire.specs.Bytes.{pick}
use Rattle.lossy.specs.Blocks.{trails}

-- 1 where a continuation byte is due after three bytes: one behind the first of two bytes or more, two behind that of three, three behind that of four
abbrev pub due_after : ℕ → ℕ → ℕ → ℕ
due_after x y z = pick (ltb x 0xF0) (pick (ltb y 0xE0) (pick (ltb z 0xC0) 0 1) 1) 1

-- 1 where one is due and does not stand there, or stands there and is not due
abbrev pub apart : ℕ → ℕ → ℕ → ℕ → ℕ
apart x y z b = pick (eqb (due_after x y z) (trails b)) 0 1

-- 1 for a second byte that is below the range behind its first one, and for one that is above it
abbrev pub under : ℕ → ℕ → ℕ → ℕ → ℕ
under first least a b = pick (eqb a first) (pick (ltb b least) 1 0) 0

abbrev pub over : ℕ → ℕ → ℕ → ℕ → ℕ
over first most a b = pick (eqb a first) (pick (ltb b most) 0 1) 0

-- 1 for a byte that stands in no character
abbrev pub nowhere : ℕ → ℕ
nowhere a = pick (ltb a 0xC0) 0 (pick (ltb a 0xC2) 1 (pick (ltb a 0xF5) 0 1))

-- 0 where b may stand behind x, y and z and z stands in some character
unfoldable pub unfits : ℕ → ℕ → ℕ → ℕ → ℕ
unfits x y z b = apart x y z b + under 0xE0 0xA0 z b + over 0xED 0xA0 z b + under 0xF0 0x90 z b + over 0xF4 0x90 z b + nowhere z

-- the same of the byte three places behind a place
abbrev pub window_at : List ℕ → ℕ → ℕ
window_at s i = unfits (get_or s i 0) (get_or s (i + 1) 0) (get_or s (i + 2) 0) (get_or s (i + 3) 0)

-- the sum over n places
unfoldable pub windows_at : List ℕ → ℕ → ℕ → ℕ
windows_at s i zero = 0
windows_at s i (suc n) = windows_at s i n + window_at s (i + n)

-- how many of three bytes belong to a character that goes on behind them
abbrev pub begun : ℕ → ℕ → ℕ → ℕ
begun x y z = pick (eqb (due_after x y z) 0) 0 (pick (eqb (trails z) 0) 1 (pick (eqb (trails y) 0) 2 3))
