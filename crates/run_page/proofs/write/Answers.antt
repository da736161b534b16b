use Rattle.run_page.proofs.write.Goals as goal

pub returns : goal.returns
returns c = rw c.page_of-page.ensures at c.write.ensures
