pub mod RefusalKeys
