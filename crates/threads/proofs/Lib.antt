pub mod RulesThreaded
pub mod KeysTold
