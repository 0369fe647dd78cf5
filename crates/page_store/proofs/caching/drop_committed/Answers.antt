use Rattle.page_store.proofs.caching.drop_committed.Goals as goal

pub returns-else-is_committed-clause-lacks : goal.returns-else-is_committed-clause-lacks
returns-else-is_committed-clause-lacks c = c.requires c.if-is_committed.false
