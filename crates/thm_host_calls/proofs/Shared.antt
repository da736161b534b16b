-- The text of a page is held by theorems of its own crate.
use Rattle.page.proofs.PageLines.{page_has_lines}
use Rattle.page.proofs.Screen.{page_reads_back}
use Rattle.thm_host_calls.specs.Shared.{PageHeld}

pub page_held : PageHeld
page_held = record { lines = page_has_lines; read_back = page_reads_back }
