use Rattle.page_store.proofs.flash_pages.FlashPagesPageStore.apply.Goals as goal

pub returns-in-Store-clause-makes : goal.returns-in-Store-clause-makes
returns-in-Store-clause-makes g c = rw c.in-Store.is (rw c.as_mut.ensures.value at c.apply.ensures.makes)

pub returns-in-ReadOnly-clause-makes : goal.returns-in-ReadOnly-clause-makes
returns-in-ReadOnly-clause-makes g c = rw c.in-ReadOnly.is (rw c.as_mut-in-ReadOnly.ensures.value at c.apply-in-ReadOnly.ensures.makes)
